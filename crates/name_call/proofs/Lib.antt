pub mod DifferLaws
