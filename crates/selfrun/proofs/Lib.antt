pub mod DrawnLemmas
pub mod TallyLemmas
pub mod FoldLemmas
