pub mod RefusalLaws
pub mod BytesLaws
pub mod FindLaws
