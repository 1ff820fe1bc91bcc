pub mod StepsWritable
pub mod PutLine
pub mod OnlyPattern
pub mod TextSays
