pub mod MeetLaws
pub mod StandLaws
