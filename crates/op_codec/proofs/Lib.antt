mod Exact
mod KeylessExact
mod ImmutableExact
