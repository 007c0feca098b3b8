pub mod Words
pub mod Lexed
pub mod Tokens
pub mod Lexing
