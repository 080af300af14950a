mod ConsistencyLemmas
pub mod BesideLemmas
mod FenceLemmas
pub mod EditLemmas
pub mod StepLemmas
mod CountLemmas
mod SubtreeLemmas
mod RankLemmas
mod PathLemmas
mod ChangeLemmas
mod AugmentedTableLemmas
mod OverlapLemmas
pub mod AllOverlaps
pub mod PooledTrees
