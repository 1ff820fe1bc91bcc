pub mod SharpForBench
