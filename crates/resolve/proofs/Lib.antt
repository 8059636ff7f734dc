pub mod ProstLaws
