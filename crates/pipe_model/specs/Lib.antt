pub mod Forwarding
pub mod Stages
pub mod Relation
pub mod StageView
pub mod Contents
pub mod PipelineLaws
