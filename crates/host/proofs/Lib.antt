pub mod RunsLaws
pub mod OwnedRunsLaws
pub mod LeaderLaws
