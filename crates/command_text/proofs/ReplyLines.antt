-- Lines of replies, put one after another.
use Rattle.std.proofs.Common.{ℕ, ◌+◌, ◌<◌, ◌≤◌, List, [], ◌++◌, length, take, get_or, Option, Result, subst}
use Rattle.std.specs.List.{flat_map}
use Rattle.std.proofs.lemmas.List.{take_all}
use Rattle.stream_base.specs.Writing.{Writes, WritesFront}
use Rattle.command_text.specs.declared.command.Reply.{Reply}
use Rattle.line_text.specs.Pending.{IsSent, puts_end}
use Rattle.command_text.specs.Text.{reply_text, text_of}
use Rattle.command_text.proofs.EachText.{each_front, each_more}

-- a front of the texts of some replies is one of the texts of all
pub lines_front : (a : Option (List ℕ)) (b : Option (List ℕ)) (q : List ℕ) (c : Option (List ℕ)) (rs : List Reply) (i : ℕ) (r : Reply) → i < length rs
    → IsSent a [] b q (flat_map reply_text (take i rs)) → WritesFront b c (q ++ reply_text (get_or rs i r)) → WritesFront a c (text_of rs)
unfolding text_of
lines_front a b q c rs i r lt sent front = each_front reply_text a [] b q c rs i r lt sent front

pub lines_more : (a : Option (List ℕ)) (b : Option (List ℕ)) (q : List ℕ) (c : Option (List ℕ)) (s : List ℕ) (rs : List Reply) (i : ℕ) (r : Reply) → i < length rs
    → IsSent a [] b q (flat_map reply_text (take i rs)) → IsSent b q c s (reply_text (get_or rs i r)) → IsSent a [] c s (flat_map reply_text (take (i + 1) rs))
lines_more a b q c s rs i r lt sent next = each_more reply_text a [] b q c s rs i r lt sent next

pub lines_end : {T E : Type 0} (a : Option (List ℕ)) (b : Option (List ℕ)) (q : List ℕ) (c : Option (List ℕ)) (out : Result T E) (rs : List Reply) (i : ℕ) → length rs ≤ i
    → IsSent a [] b q (flat_map reply_text (take i rs)) → Writes b c out q → Writes a c out (text_of rs)
unfolding text_of
lines_end a b q c out rs i le sent writes =
    let P : List Reply → Type 0 = λ ds. Writes a c out (flat_map reply_text ds) in
    subst P (take_all i rs le) (puts_end a b q c out (flat_map reply_text (take i rs)) sent writes)
