pub mod OutputAfter
pub mod BytesWritten
pub mod Gives
