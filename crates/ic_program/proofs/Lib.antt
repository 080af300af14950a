mod Digits
pub mod Decimals
pub mod TakeLemmas
pub mod TextLemmas
pub mod CallLemmas
pub mod WordLemmas
pub mod ReadingLemmas
pub mod NameLemmas
pub mod LineLemmas
pub mod LinesLemmas
pub mod PieceLemmas
pub mod CutLemmas
pub mod AnsweredLemmas
pub mod ReadAhead
pub mod WorkerLines
pub mod RunEnds
pub mod SharedLemmas
