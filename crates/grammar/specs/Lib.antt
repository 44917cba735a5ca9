pub mod Names
pub mod Grammar
pub mod Lines
pub mod OpenSmiles
