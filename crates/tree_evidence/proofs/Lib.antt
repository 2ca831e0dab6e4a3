mod ClashLemmas
mod DifferenceLemmas
mod FoldLemmas
mod NodeLemmas
mod PeakLemmas
mod RootLemmas
mod TreeLemmas
