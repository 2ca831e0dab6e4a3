use Rattle.std.proofs.Common.{◌≡◌, ◌++◌, ℕ, Some, None, Option, sym, ◌∙◌, ap, subst, arith, rules, inr}
use Rattle.std.specs.Prelude.{string_bytes}
use Rattle.volume_base.specs.Log.{Log}
use Rattle.journal_base.specs.Items.{Items, items_of}
use Rattle.journal_base.specs.View.{View}
use Rattle.auth_journal.specs.Joined.{leaves_of}
use Rattle.auth_journal.specs.Searching.{EndsAt}
use Rattle.auth_journal.proofs.LeafLemmas.{length-leaves_of}
use Rattle.keyless_db.specs.Opening.{IsSaidCommit}
use Rattle.auth_journal.specs.Opening.{NotOpened}
use Rattle.keyless_db.proofs.OpenLemmas.{ends_as, not_opened_as, opened_low}
use Rattle.keyless_db.proofs.database.Keyless.open_journal.Goals as goal

pub returns-in-Ok-clause-found : goal.returns-in-Ok-clause-found
returns-in-Ok-clause-found g c tells =
    let items : Items g.row.O.Denot = items_of g.O.Spelled.spelling g.O.Read.admits (g.C.Backing.config c.args.cfg.log) (g.V.Volume.state c.args.vol.now) in
    let cap : Some c.as_u64.result ≡ c.args.max_size = ap Some c.as_u64.ensures ∙ sym c.in-Some.is in
    subst (λ (o : Option ℕ). EndsAt items (IsSaidCommit g.O.Logged.meaning) o c.in-Ok.journal.items.end) cap
    (ends_as items _ (IsSaidCommit g.O.Logged.meaning) (Some c.as_u64.result) c.in-Ok.journal.items.end (λ x b k. search rules) (c.in-Ok.ensures.found tells))

pub returns-in-Ok-clause-listed : goal.returns-in-Ok-clause-listed
returns-in-Ok-clause-listed g c tells list rest durable run few stands =
    let s = g.F.Family.shape in
    let h = g.H.Hasher.hash in
    let view = g.C.Backing.config c.args.cfg.log in
    let old = g.V.Volume.state c.args.vol.now in
    let new = g.V.Volume.state c.init_at_most.new.vol in
    let t = c.in-Ok.journal in
    let is = c.in-Ok.ensures.joined tells list rest durable (old.log view.name).start run few stands in
    let opens = c.in-Ok.ensures.opens tells in
    let whole = list ++ rest in
    let all = leaves_of s h g.O.Spelled.spelling whole in
    let low = opened_low g.row.F.Denot s h g.H.Digest.Spelled.spelling (g.H.Digest.Read.admits tt) all (old.map (string_bytes c.args.cfg.merkle.metadata)) (old.log (string_bytes c.args.cfg.merkle.nodes)) durable
    (old.log view.name).start _ t.tree.boundary opens.leaves (omega (arith, few, length-leaves_of s h g.O.Spelled.spelling whole)) stands opens.opens in
    let name = ap (λ (v : View g.row.O-Cfg.Denot). (new.log v.name).start) c.in-Ok.ensures.named.0 in
    let cut = ap (λ (l : Log). l.start) (c.in-Ok.ensures.cut tells).0 in
    record { joined = is; low = omega (arith, low, is.start_is, name, cut) }

pub returns-in-Ok-new-clause-found : goal.returns-in-Ok-new-clause-found
returns-in-Ok-new-clause-found g c tells =
    let items : Items g.row.O.Denot = items_of g.O.Spelled.spelling g.O.Read.admits (g.C.Backing.config c.args.cfg.log) (g.V.Volume.state c.args.vol.now) in
    let cap : None ≡ c.args.max_size = sym c.in-None.is in
    subst (λ (o : Option ℕ). EndsAt items (IsSaidCommit g.O.Logged.meaning) o c.in-Ok-new.journal.items.end) cap
    (ends_as items _ (IsSaidCommit g.O.Logged.meaning) None c.in-Ok-new.journal.items.end (λ x b k. search rules) (c.in-Ok-new.ensures.found tells))

pub returns-in-Ok-new-clause-listed : goal.returns-in-Ok-new-clause-listed
returns-in-Ok-new-clause-listed g c tells list rest durable run few stands =
    let s = g.F.Family.shape in
    let h = g.H.Hasher.hash in
    let view = g.C.Backing.config c.args.cfg.log in
    let old = g.V.Volume.state c.args.vol.now in
    let new = g.V.Volume.state c.new.new.vol in
    let t = c.in-Ok-new.journal in
    let is = c.in-Ok-new.ensures.joined tells list rest durable (old.log view.name).start run few stands in
    let opens = c.in-Ok-new.ensures.opens tells in
    let whole = list ++ rest in
    let all = leaves_of s h g.O.Spelled.spelling whole in
    let low = opened_low g.row.F.Denot s h g.H.Digest.Spelled.spelling (g.H.Digest.Read.admits tt) all (old.map (string_bytes c.args.cfg.merkle.metadata)) (old.log (string_bytes c.args.cfg.merkle.nodes)) durable
    (old.log view.name).start _ t.tree.boundary opens.leaves (omega (arith, few, length-leaves_of s h g.O.Spelled.spelling whole)) stands opens.opens in
    let name = ap (λ (v : View g.row.O-Cfg.Denot). (new.log v.name).start) c.in-Ok-new.ensures.named.0 in
    let cut = ap (λ (l : Log). l.start) (c.in-Ok-new.ensures.cut tells).0 in
    record { joined = is; low = omega (arith, low, is.start_is, name, cut) }

pub returns-in-Ok-clause-start : goal.returns-in-Ok-clause-start
returns-in-Ok-clause-start g c tells =
    let new = g.V.Volume.state c.init_at_most.new.vol in
    let cut = c.in-Ok.ensures.cut tells in
    let name = ap (λ (v : View g.row.O-Cfg.Denot). (new.log v.name).start) c.in-Ok.ensures.named.0 in
    (cut.1.start_is ∙ name ∙ ap (λ (l : Log). l.start) cut.0, cut.1)

pub returns-in-Ok-new-clause-start : goal.returns-in-Ok-new-clause-start
returns-in-Ok-new-clause-start g c tells =
    let new = g.V.Volume.state c.new.new.vol in
    let cut = c.in-Ok-new.ensures.cut tells in
    let name = ap (λ (v : View g.row.O-Cfg.Denot). (new.log v.name).start) c.in-Ok-new.ensures.named.0 in
    (cut.1.start_is ∙ name ∙ ap (λ (l : Log). l.start) cut.0, cut.1)

pub returns-in-Err-clause-refused : goal.returns-in-Err-clause-refused
returns-in-Err-clause-refused g c tells =
    let digest = g.H.Digest.Spelled.spelling in
    let admits = g.H.Digest.Read.admits tt in
    let old = g.V.Volume.state c.args.vol.now in
    let items : Items g.row.O.Denot = items_of g.O.Spelled.spelling g.O.Read.admits (g.C.Backing.config c.args.cfg.log) old in
    let log = old.log (string_bytes c.args.cfg.merkle.nodes) in
    let map = old.map (string_bytes c.args.cfg.merkle.metadata) in
    let cap : Some c.as_u64.result ≡ c.args.max_size = ap Some c.as_u64.ensures ∙ sym c.in-Some.is in (
      c.in-Err.error,
      c.from_joined.ensures,
      subst (λ (o : Option ℕ). NotOpened g.V.Volume.tells digest admits g.F.Family.shape map log items (IsSaidCommit g.O.Logged.meaning) o c.in-Err.error) cap
          (not_opened_as g.V.Volume.tells digest admits g.F.Family.shape map log items _ (IsSaidCommit g.O.Logged.meaning) (Some c.as_u64.result) c.in-Err.error (λ x b k. search rules) (c.in-Err.ensures.refused tells)),
    )

pub returns-in-Err-new-clause-refused : goal.returns-in-Err-new-clause-refused
returns-in-Err-new-clause-refused g c tells =
    let digest = g.H.Digest.Spelled.spelling in
    let admits = g.H.Digest.Read.admits tt in
    let old = g.V.Volume.state c.args.vol.now in
    let items : Items g.row.O.Denot = items_of g.O.Spelled.spelling g.O.Read.admits (g.C.Backing.config c.args.cfg.log) old in
    let log = old.log (string_bytes c.args.cfg.merkle.nodes) in
    let map = old.map (string_bytes c.args.cfg.merkle.metadata) in
    let cap : None ≡ c.args.max_size = sym c.in-None.is in (
      c.in-Err-new.error,
      c.from_joined-in-Err-new.ensures,
      subst (λ (o : Option ℕ). NotOpened g.V.Volume.tells digest admits g.F.Family.shape map log items (IsSaidCommit g.O.Logged.meaning) o c.in-Err-new.error) cap
          (not_opened_as g.V.Volume.tells digest admits g.F.Family.shape map log items _ (IsSaidCommit g.O.Logged.meaning) None c.in-Err-new.error (λ x b k. search rules) (c.in-Err-new.ensures.refused tells)),
    )

pub returns-in-Err-clause-errors : goal.returns-in-Err-clause-errors
returns-in-Err-clause-errors g c = inr (c.in-Err.error, c.from_joined.ensures, c.in-Err.ensures.lifted)

pub returns-in-Err-new-clause-errors : goal.returns-in-Err-new-clause-errors
returns-in-Err-new-clause-errors g c = inr (c.in-Err-new.error, c.from_joined-in-Err-new.ensures, c.in-Err-new.ensures.lifted)

pub returns-in-Ok-clause-images : goal.returns-in-Ok-clause-images
returns-in-Ok-clause-images g c tells list rest marks within run few =
    let m = g.O.Logged.meaning in
    let items : Items g.row.O.Denot = items_of g.O.Spelled.spelling g.O.Read.admits (g.C.Backing.config c.args.cfg.log) (g.V.Volume.state c.args.vol.now) in
    let most : Option ℕ = Some c.as_u64.result in
    let cap : most ≡ c.args.max_size = ap Some c.as_u64.ensures ∙ sym c.in-Some.is in
    c.in-Ok.ensures.images tells list rest marks
    (λ end ends. within end (subst (λ (o : Option ℕ). EndsAt items (IsSaidCommit m) o end) cap (ends_as items _ (IsSaidCommit m) most end (λ x b k. search rules) ends))) run few

pub returns-in-Ok-clause-settled : goal.returns-in-Ok-clause-settled
returns-in-Ok-clause-settled g c tells list rest marks within run few =
    let m = g.O.Logged.meaning in
    let items : Items g.row.O.Denot = items_of g.O.Spelled.spelling g.O.Read.admits (g.C.Backing.config c.args.cfg.log) (g.V.Volume.state c.args.vol.now) in
    let most : Option ℕ = Some c.as_u64.result in
    let cap : most ≡ c.args.max_size = ap Some c.as_u64.ensures ∙ sym c.in-Some.is in
    c.in-Ok.ensures.settled tells list rest marks
    (λ end ends. within end (subst (λ (o : Option ℕ). EndsAt items (IsSaidCommit m) o end) cap (ends_as items _ (IsSaidCommit m) most end (λ x b k. search rules) ends))) run few

pub returns-in-Err-clause-images : goal.returns-in-Err-clause-images
returns-in-Err-clause-images g c tells list rest marks within run few =
    let m = g.O.Logged.meaning in
    let items : Items g.row.O.Denot = items_of g.O.Spelled.spelling g.O.Read.admits (g.C.Backing.config c.args.cfg.log) (g.V.Volume.state c.args.vol.now) in
    let most : Option ℕ = Some c.as_u64.result in
    let cap : most ≡ c.args.max_size = ap Some c.as_u64.ensures ∙ sym c.in-Some.is in
    c.in-Err.ensures.images tells list rest marks
    (λ end ends. within end (subst (λ (o : Option ℕ). EndsAt items (IsSaidCommit m) o end) cap (ends_as items _ (IsSaidCommit m) most end (λ x b k. search rules) ends))) run few

pub returns-in-Ok-new-clause-images : goal.returns-in-Ok-new-clause-images
returns-in-Ok-new-clause-images g c tells list rest marks within run few =
    let m = g.O.Logged.meaning in
    let items : Items g.row.O.Denot = items_of g.O.Spelled.spelling g.O.Read.admits (g.C.Backing.config c.args.cfg.log) (g.V.Volume.state c.args.vol.now) in
    let most : Option ℕ = None in
    let cap : most ≡ c.args.max_size = sym c.in-None.is in
    c.in-Ok-new.ensures.images tells list rest marks
    (λ end ends. within end (subst (λ (o : Option ℕ). EndsAt items (IsSaidCommit m) o end) cap (ends_as items _ (IsSaidCommit m) most end (λ x b k. search rules) ends))) run few

pub returns-in-Ok-new-clause-settled : goal.returns-in-Ok-new-clause-settled
returns-in-Ok-new-clause-settled g c tells list rest marks within run few =
    let m = g.O.Logged.meaning in
    let items : Items g.row.O.Denot = items_of g.O.Spelled.spelling g.O.Read.admits (g.C.Backing.config c.args.cfg.log) (g.V.Volume.state c.args.vol.now) in
    let most : Option ℕ = None in
    let cap : most ≡ c.args.max_size = sym c.in-None.is in
    c.in-Ok-new.ensures.settled tells list rest marks
    (λ end ends. within end (subst (λ (o : Option ℕ). EndsAt items (IsSaidCommit m) o end) cap (ends_as items _ (IsSaidCommit m) most end (λ x b k. search rules) ends))) run few

pub returns-in-Err-new-clause-images : goal.returns-in-Err-new-clause-images
returns-in-Err-new-clause-images g c tells list rest marks within run few =
    let m = g.O.Logged.meaning in
    let items : Items g.row.O.Denot = items_of g.O.Spelled.spelling g.O.Read.admits (g.C.Backing.config c.args.cfg.log) (g.V.Volume.state c.args.vol.now) in
    let most : Option ℕ = None in
    let cap : most ≡ c.args.max_size = sym c.in-None.is in
    c.in-Err-new.ensures.images tells list rest marks
    (λ end ends. within end (subst (λ (o : Option ℕ). EndsAt items (IsSaidCommit m) o end) cap (ends_as items _ (IsSaidCommit m) most end (λ x b k. search rules) ends))) run few
