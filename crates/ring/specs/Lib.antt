pub mod Ring
pub mod Changes
