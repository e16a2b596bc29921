pub mod Wish
pub mod Conversation
pub mod inner
