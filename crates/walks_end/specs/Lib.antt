pub mod Walks
pub mod BoxedFields
pub mod Origins
pub mod Owners
pub mod LeadsBack
pub mod Labels
