pub mod NamedTexts
pub mod Writes
