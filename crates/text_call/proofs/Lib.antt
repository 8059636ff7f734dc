pub mod RoomLaws
pub mod FileLaws
pub mod AcceptLaws
pub mod OrderLaws
pub mod DeclareLaws
