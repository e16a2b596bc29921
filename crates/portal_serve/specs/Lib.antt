pub mod Hall
pub mod Streams
pub mod inner
