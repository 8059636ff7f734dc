-- prost-types' accessors of a descriptor, for those that speak of this crate's rules too.
pub use Rattle.descriptor.specs.Accessors.{or_else, text, number, label, type, is_repeated, is_message, is_group, is_enum}
