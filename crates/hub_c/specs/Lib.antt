pub mod SharpForC
