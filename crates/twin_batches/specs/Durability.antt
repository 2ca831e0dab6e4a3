-- What a database is when it was made durable, or has given up old operations.
use Rattle.std.specs.Prelude.{◌≡◌}
use Rattle.list_machine.specs.Config.{Config}
use Rattle.twin_batches.specs.Kind.{Kind}

module _ {Db S U : Type 0} (k : Kind Db S U) where
  -- Whatever the volume holds, it has the other's state, floor and names, and was opened as that was. It keeps no
  -- failed sync.
  pub record IsSettled (old new : Db) : Type 0 where
    pub state : k.state new ≡ k.state old
    pub floor : k.floor new ≡ k.floor old
    pub names : k.names new ≡ k.names old
    pub under : (config : Config) → k.is_under config old → k.is_under config new
    pub sound : k.is_sound new
