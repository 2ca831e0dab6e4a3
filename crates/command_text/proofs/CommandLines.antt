-- Lines that say commands.
use Rattle.std.proofs.Common.{◌≡◌, inl, inr, ℕ, ◌+◌, ◌*◌, ◌<◌, List, [], ◌∷◌, ◌++◌, length, Option, Some, None, refl, sym, ◌∙◌, ap, subst, append_assoc, arith}
use Rattle.std.specs.Prelude.{codes}
use Rattle.std.specs.List.{onto_first}
use Rattle.std.specs.NonZero.{non_zero_u64_get}
use Rattle.std.specs.Coded.{le_prop}
use Rattle.std.specs.declared.num.NonZeroU64.{NonZeroU64}
use Rattle.std.proofs.lemmas.Bool.{eqb-false}
use Rattle.std.proofs.lemmas.Fmt.{decimal_injective}
use Rattle.std.proofs.lemmas.List.{append-nil, length-append}
use Rattle.command_text.specs.declared.command.Command.{Command}
use Rattle.command_text.specs.declared.command.Command.TheVariants.{New, Append, Seal, Apply, Hold, Release, Snapshot, Get, GetMany, BatchGet, BatchGetMany, Size, Metadata, Proof, CommitProof, Commit, Sync, StartSync, Prune}
use Rattle.line_text.specs.Lines.{words_of}
use Rattle.line_text.specs.Said.{IsNumberWord, IsBytesWord, IsOptionalWord, IsSkipped}
use Rattle.command_text.specs.declared.name.Name.{Name}
use Rattle.command_text.specs.declared.name.Name.TheVariants as name
use Rattle.command_text.specs.Names.{name_text}
use Rattle.command_text.specs.Grammar.{AreNumberWords, WordsSay, SayNothing, Says, LinesSay}
use Rattle.command_text.specs.declared.parse.LineError.{LineError}
use Rattle.command_text.specs.declared.parse.LineError.TheVariants.{Bad, Memory}
use Rattle.command_text.specs.Bad.{IsBad, IsFirstBad, IsCause, IsBadHere, Adds}
use Rattle.line_text.proofs.HexWords.{decodes}

-- a word is one number
one_number : (text : List ℕ) (m n : ℕ) → IsNumberWord text m → IsNumberWord text n → m ≡ n
one_number text m n a b = decimal_injective m n a.fits b.fits (sym a.digits ∙ b.digits)

-- a word stands for one list of bytes
one_value : (text : List ℕ) (a b : List ℕ) → IsBytesWord text a → IsBytesWord text b → a ≡ b
one_value text [] [] p q = refl
one_value text [] (y ∷ ys) p q = absurd (rw p at q)
one_value text (x ∷ xs) [] p q = absurd (rw q at p)
one_value text (x ∷ xs) (y ∷ ys) p q =
    let first = decodes text (x ∷ xs) p in
    let second = decodes text (y ∷ ys) q in
    cc

first_of : List ℕ → ℕ
first_of [] = 0
first_of (b ∷ bytes) = b

hyphen_is_no_stop : codes "-" ≡ codes "." → ⊥
unfolding first_of
hyphen_is_no_stop e = let f = ap first_of e in omega (arith, f)

-- metadata is one word
one_metadata : (text : List ℕ) (m n : Option (List ℕ)) → IsOptionalWord text m → IsOptionalWord text n → m ≡ n
one_metadata text None None p q = refl
one_metadata text None (Some []) p q = absurd (hyphen_is_no_stop (sym p ∙ q))
one_metadata text None (Some (b ∷ bytes)) p q = absurd (rw p at q)
one_metadata text (Some []) None p q = absurd (hyphen_is_no_stop (sym q ∙ p))
one_metadata text (Some (b ∷ bytes)) None p q = absurd (rw q at p)
one_metadata text (Some v) (Some w) p q = ap Some (one_value text v w p q)

-- which command it is
abbrev kind_of : Command → Name
kind_of (New b) = name.New
kind_of (Append b v) = name.Append
kind_of (Seal b m f) = name.Seal
kind_of (Apply b) = name.Apply
kind_of (Hold b) = name.Hold
kind_of (Release b) = name.Release
kind_of Snapshot = name.Snapshot
kind_of (Get l) = name.Get
kind_of (GetMany ls) = name.GetMany
kind_of (BatchGet b l) = name.BatchGet
kind_of (BatchGetMany b ls) = name.BatchGetMany
kind_of Size = name.Size
kind_of Metadata = name.Metadata
kind_of (Proof s l n) = name.Proof
kind_of (CommitProof s) = name.CommitProof
kind_of Commit = name.Commit
kind_of Sync = name.Sync
kind_of StartSync = name.StartSync
kind_of (Prune l) = name.Prune

-- the first word of a command
abbrev command_name : Command → List ℕ
command_name c = name_text (kind_of c)

-- the first of words, or the empty word
abbrev head_word : List (List ℕ) → List ℕ
head_word [] = []
head_word (word ∷ words) = word

-- what says a command begins with its name
named : (words : List (List ℕ)) (c : Command) → WordsSay words c → head_word words ≡ command_name c
named words (New None) p = ap head_word p
named words (New (Some b)) p = ap head_word p.1
named words (Append b v) p = ap head_word p.2
named words (Seal b m f) p = ap head_word p.3
named words (Apply b) p = ap head_word p.1
named words (Hold b) p = ap head_word p.1
named words (Release b) p = ap head_word p.1
named words Snapshot p = ap head_word p
named words (Get l) p = ap head_word p.1
named words (GetMany ls) p = ap head_word p.1
named words (BatchGet b l) p = ap head_word p.2
named words (BatchGetMany b ls) p = ap head_word p.2
named words Size p = ap head_word p
named words Metadata p = ap head_word p
named words (Proof s l n) p = ap head_word p.3
named words (CommitProof s) p = ap head_word p.1
named words Commit p = ap head_word p
named words Sync p = ap head_word p
named words StartSync p = ap head_word p
named words (Prune l) p = ap head_word p.1

-- a word that is no name begins no command
pub unnamed : (word : List ℕ) (words : List (List ℕ)) → ((n : Name) → word ≡ name_text n → ⊥) → SayNothing (word ∷ words)
unnamed word words none c p = none (kind_of c) (named (word ∷ words) c p)

-- a number for each word; the names of commands have different ones
abbrev mark : List ℕ → ℕ
mark [] = 0
mark (b ∷ word) = b + 3 * mark word

same_mark : (words : List (List ℕ)) (a b : Command) → WordsSay words a → WordsSay words b → mark (command_name a) ≡ mark (command_name b)
same_mark words a b p q = ap mark (sym (named words a p) ∙ named words b q)

-- words that begin with `proof` say no other command
only_proof : (words : List (List ℕ)) → ((s l : ℕ) (n : NonZeroU64) → WordsSay (codes "proof" ∷ words) (Proof s l n) → ⊥) → SayNothing (codes "proof" ∷ words)
only_proof words none (Proof s l n) p = none s l n p
only_proof words none c p = absurd (eqb-false (mark (codes "proof")) (mark (command_name c)) refl (ap mark (named (codes "proof" ∷ words) c p)))

-- a proof wants a second number
pub no_start : (words behind : List (List ℕ)) (word : List ℕ) → words ≡ word ∷ behind
    → ((next : List ℕ) (rest : List (List ℕ)) (n : ℕ) → behind ≡ next ∷ rest → IsNumberWord next n → ⊥) → SayNothing (codes "proof" ∷ words)
no_start words behind word e none = only_proof words
    (λ s l n p. let same = p.3 in let next : behind ≡ p.1 ∷ p.2 ∷ [] = cc in none p.1 (p.2 ∷ []) l next p.5)

-- and a third that isn't 0
pub no_zero : (words behind left : List (List ℕ)) (word next last : List ℕ) → words ≡ word ∷ behind → behind ≡ next ∷ left → left ≡ last ∷ [] → IsNumberWord last 0
    → SayNothing (codes "proof" ∷ words)
no_zero words behind left word next last e f g zero = only_proof words
    (λ s l n p.
    let same = p.3 in
    let lasts : p.2 ≡ last = cc in
    let none = one_number last (non_zero_u64_get n) 0 (rw lasts at p.6) zero in
    omega (arith, none, n.ok))

-- words are one list of numbers
one_list : (words : List (List ℕ)) (ms ns : List ℕ) → AreNumberWords words ms → AreNumberWords words ns → ms ≡ ns
one_list [] [] [] p q = refl
one_list [] [] (n ∷ ns) p q = absurd q
one_list [] (m ∷ ms) ns p q = absurd p
one_list (word ∷ words) [] ns p q = absurd p
one_list (word ∷ words) (m ∷ ms) [] p q = absurd q
one_list (word ∷ words) (m ∷ ms) (n ∷ ns) p q =
    let first = one_number word m n p.0 q.0 in
    let rest = one_list words ms ns p.1 q.1 in
    cc

-- a number that isn't 0 is one by its value
one_count : (m n : NonZeroU64) → non_zero_u64_get m ≡ non_zero_u64_get n → m ≡ n
one_count m n e =
    let P : ℕ → Type 0 = λ v. (ok : 0 < v) → m ≡ record { value = v; ok = ok } in
    let positive : (x y : 0 < m.value) → x ≡ y = hlevel le_prop in
    subst P e (λ ok i. record { value = m.value; ok = positive m.ok ok i }) n.ok

-- words say one command
one_command : (words : List (List ℕ)) (a b : Command) → WordsSay words a → WordsSay words b → a ≡ b
one_command words (New None) (New None) p q = refl
one_command words (New None) (New (Some b)) p q = absurd (let e = sym p ∙ q.1 in cc)
one_command words (New (Some a)) (New None) p q = absurd (let e = sym p.1 ∙ q in cc)
one_command words (New (Some a)) (New (Some b)) p q =
    let same = sym p.1 ∙ q.1 in
    let numbers : p.0 ≡ q.0 = cc in
    let number = one_number q.0 a b (rw numbers at p.2) q.2 in
    cc
one_command words (Append a v) (Append b w) p q =
    let same = sym p.2 ∙ q.2 in
    let numbers : p.0 ≡ q.0 = cc in
    let texts : p.1 ≡ q.1 = cc in
    let number = one_number q.0 a b (rw numbers at p.3) q.3 in
    let value = one_value q.1 v w (rw texts at p.4) q.4 in
    cc
one_command words (Seal a m f) (Seal b n g) p q =
    let same = sym p.3 ∙ q.3 in
    let numbers : p.0 ≡ q.0 = cc in
    let texts : p.1 ≡ q.1 = cc in
    let floors : p.2 ≡ q.2 = cc in
    let number = one_number q.0 a b (rw numbers at p.4) q.4 in
    let metadata = one_metadata q.1 m n (rw texts at p.5) q.5 in
    let floor = one_number q.2 f g (rw floors at p.6) q.6 in
    cc
one_command words (Apply a) (Apply b) p q =
    let same = sym p.1 ∙ q.1 in
    let numbers : p.0 ≡ q.0 = cc in
    let number = one_number q.0 a b (rw numbers at p.2) q.2 in
    cc
one_command words (Hold a) (Hold b) p q =
    let same = sym p.1 ∙ q.1 in
    let numbers : p.0 ≡ q.0 = cc in
    let number = one_number q.0 a b (rw numbers at p.2) q.2 in
    cc
one_command words (Release a) (Release b) p q =
    let same = sym p.1 ∙ q.1 in
    let numbers : p.0 ≡ q.0 = cc in
    let number = one_number q.0 a b (rw numbers at p.2) q.2 in
    cc
one_command words Snapshot Snapshot p q = refl
one_command words (Get a) (Get b) p q =
    let same = sym p.1 ∙ q.1 in
    let numbers : p.0 ≡ q.0 = cc in
    let number = one_number q.0 a b (rw numbers at p.2) q.2 in
    cc
one_command words (GetMany ms) (GetMany ns) p q =
    let same = sym p.1 ∙ q.1 in
    let texts : p.0 ≡ q.0 = cc in
    let numbers = one_list q.0 ms ns (rw texts at p.2) q.2 in
    cc
one_command words (BatchGet a l) (BatchGet b k) p q =
    let same = sym p.2 ∙ q.2 in
    let numbers : p.0 ≡ q.0 = cc in
    let lasts : p.1 ≡ q.1 = cc in
    let number = one_number q.0 a b (rw numbers at p.3) q.3 in
    let location = one_number q.1 l k (rw lasts at p.4) q.4 in
    cc
one_command words (BatchGetMany a ms) (BatchGetMany b ns) p q =
    let same = sym p.2 ∙ q.2 in
    let numbers : p.0 ≡ q.0 = cc in
    let texts : p.1 ≡ q.1 = cc in
    let number = one_number q.0 a b (rw numbers at p.3) q.3 in
    let locations = one_list q.1 ms ns (rw texts at p.4) q.4 in
    cc
one_command words Size Size p q = refl
one_command words Metadata Metadata p q = refl
one_command words (Proof s l m) (Proof t k n) p q =
    let same = sym p.3 ∙ q.3 in
    let numbers : p.0 ≡ q.0 = cc in
    let nexts : p.1 ≡ q.1 = cc in
    let lasts : p.2 ≡ q.2 = cc in
    let size = one_number q.0 s t (rw numbers at p.4) q.4 in
    let start = one_number q.1 l k (rw nexts at p.5) q.5 in
    let count = one_count m n (one_number q.2 (non_zero_u64_get m) (non_zero_u64_get n) (rw lasts at p.6) q.6) in
    cc
one_command words (CommitProof a) (CommitProof b) p q =
    let same = sym p.1 ∙ q.1 in
    let numbers : p.0 ≡ q.0 = cc in
    let number = one_number q.0 a b (rw numbers at p.2) q.2 in
    cc
one_command words Commit Commit p q = refl
one_command words Sync Sync p q = refl
one_command words StartSync StartSync p q = refl
one_command words (Prune a) (Prune b) p q =
    let same = sym p.1 ∙ q.1 in
    let numbers : p.0 ≡ q.0 = cc in
    let number = one_number q.0 a b (rw numbers at p.2) q.2 in
    cc
one_command words a b p q = absurd (eqb-false (mark (command_name a)) (mark (command_name b)) refl (same_mark words a b p q))

-- the first byte of a word, or 0
abbrev head_byte : List ℕ → ℕ
head_byte [] = 0
head_byte (b ∷ word) = b

-- a command's name begins with a letter
begins_with_letter : (c : Command) → 35 < head_byte (command_name c)
begins_with_letter (New b) = omega arith
begins_with_letter c = omega arith

said_letter : (words : List (List ℕ)) (c : Command) → WordsSay words c → 35 < head_byte (head_word words)
said_letter words c p = subst (λ word. 35 < head_byte word) (sym (named words c p)) (begins_with_letter c)

onto_hash : (words : List (List ℕ)) → head_byte (head_word (onto_first 35 words)) ≡ 35
onto_hash [] = refl
onto_hash (word ∷ words) = refl

-- words that begin with a number sign say no command
hash_says_nothing : (words : List (List ℕ)) (c : Command) → WordsSay (onto_first 35 words) c → ⊥
hash_says_nothing words c p = let letter = said_letter (onto_first 35 words) c p in omega (arith, letter, onto_hash words)

-- the empty word is no command
empty_says_nothing : (c : Command) → WordsSay ([] ∷ []) c → ⊥
empty_says_nothing c p = let letter = said_letter ([] ∷ []) c p in omega (arith, letter)

-- a line that is skipped says no command
skipped_says_nothing : (line : List ℕ) (c : Command) → IsSkipped line → Says line c → ⊥
skipped_says_nothing [] c skipped said = empty_says_nothing c said
skipped_says_nothing (b ∷ line) c skipped said = hash_says_nothing (words_of line) c (rw skipped at said)

-- lines say one list of commands
pub one_reading : (lines : List (List ℕ)) (a b : List Command) → LinesSay lines a → LinesSay lines b → a ≡ b
one_reading [] [] [] p q = refl
one_reading [] [] (d ∷ ds) p q = absurd q
one_reading [] (c ∷ cs) ds p q = absurd p
one_reading (line ∷ lines) [] [] p q = refl
one_reading (line ∷ lines) [] (d ∷ ds) p (inl q) = one_reading lines [] (d ∷ ds) p.1 q.1
one_reading (line ∷ lines) [] (d ∷ ds) p (inr q) = absurd (skipped_says_nothing line d p.0 q.0)
one_reading (line ∷ lines) (c ∷ cs) [] (inl p) q = one_reading lines (c ∷ cs) [] p.1 q.1
one_reading (line ∷ lines) (c ∷ cs) [] (inr p) q = absurd (skipped_says_nothing line c q.0 p.0)
one_reading (line ∷ lines) (c ∷ cs) (d ∷ ds) (inl p) (inl q) = one_reading lines (c ∷ cs) (d ∷ ds) p.1 q.1
one_reading (line ∷ lines) (c ∷ cs) (d ∷ ds) (inl p) (inr q) = absurd (skipped_says_nothing line d p.0 q.0)
one_reading (line ∷ lines) (c ∷ cs) (d ∷ ds) (inr p) (inl q) = absurd (skipped_says_nothing line c q.0 p.0)
one_reading (line ∷ lines) (c ∷ cs) (d ∷ ds) (inr p) (inr q) =
    let first = one_command (words_of line) c d p.0 q.0 in
    let rest = one_reading lines cs ds p.1 q.1 in
    cc

say_skip : (lines : List (List ℕ)) (commands : List Command) (line : List ℕ) → LinesSay lines commands → IsSkipped line → LinesSay (lines ++ (line ∷ [])) commands
say_skip [] [] line p q = (q, tt)
say_skip [] (d ∷ ds) line p q = absurd p
say_skip (l ∷ lines) [] line p q = (p.0, say_skip lines [] line p.1 q)
say_skip (l ∷ lines) (d ∷ ds) line (inl p) q = inl (p.0, say_skip lines (d ∷ ds) line p.1 q)
say_skip (l ∷ lines) (d ∷ ds) line (inr p) q = inr (p.0, say_skip lines ds line p.1 q)

say_push : (lines : List (List ℕ)) (commands : List Command) (line : List ℕ) (c : Command) → LinesSay lines commands → Says line c → LinesSay (lines ++ (line ∷ [])) (commands ++ (c ∷ []))
say_push [] [] line c p q = inr (q, tt)
say_push [] (d ∷ ds) line c p q = absurd p
say_push (l ∷ lines) [] line c p q = inl (p.0, say_push lines [] line c p.1 q)
say_push (l ∷ lines) (d ∷ ds) line c (inl p) q = inl (p.0, say_push lines (d ∷ ds) line c p.1 q)
say_push (l ∷ lines) (d ∷ ds) line c (inr p) q = inr (p.0, say_push lines ds line c p.1 q)

-- a line among lines that say commands isn't bad
none_bad : (before : List (List ℕ)) (line : List ℕ) (after : List (List ℕ)) (commands : List Command) → LinesSay (before ++ (line ∷ after)) commands → IsBad line → ⊥
none_bad [] line after [] p bad = bad.not_skipped p.0
none_bad [] line after (c ∷ cs) (inl p) bad = bad.not_skipped p.0
none_bad [] line after (c ∷ cs) (inr p) bad = bad.words c p.0
none_bad (l ∷ before) line after [] p bad = none_bad before line after [] p.1 bad
none_bad (l ∷ before) line after (c ∷ cs) (inl p) bad = none_bad before line after (c ∷ cs) p.1 bad
none_bad (l ∷ before) line after (c ∷ cs) (inr p) bad = none_bad before line after cs p.1 bad

pub bad_clash : (lines : List (List ℕ)) (n : ℕ) (commands : List Command) → IsFirstBad lines n → LinesSay lines commands → ⊥
bad_clash lines n commands bad p = none_bad bad.before bad.line bad.after commands (rw bad.parts at p) bad.bad

-- this many lines say these commands so far, and those are left
pub record IsReadSoFar (lines : List (List ℕ)) (commands : List Command) (number : ℕ) (left : List (List ℕ)) : Type 0 where
  pub before : List (List ℕ)
  pub parts : lines ≡ before ++ left
  pub count : number ≡ length before
  pub said : LinesSay before commands

pub read_none : (lines : List (List ℕ)) → IsReadSoFar lines [] 0 lines
read_none lines = record { before = []; parts = refl; count = refl; said = tt }

one_more : (before : List (List ℕ)) (line : List ℕ) (number : ℕ) → number ≡ length before → number + 1 ≡ length (before ++ (line ∷ []))
one_more before line number e = ap (λ k. k + 1) e ∙ sym (length-append before (line ∷ []))

said_more : (before : List (List ℕ)) (line : List ℕ) (commands more : List Command) → Adds line commands more → LinesSay before commands → LinesSay (before ++ (line ∷ [])) more
said_more before line commands more (inl skipped) said = rw skipped.1 (say_skip before commands line said skipped.0)
said_more before line commands more (inr adds) said = rw adds.2 (say_push before commands line adds.0 said adds.1)

pub read_more : (lines : List (List ℕ)) (commands more : List Command) (number : ℕ) (line : List ℕ) (left : List (List ℕ)) → Adds line commands more
    → IsReadSoFar lines commands number (line ∷ left) → IsReadSoFar lines more (number + 1) left
read_more lines commands more number line left adds so_far = record {
  before = so_far.before ++ (line ∷ []);
  parts = so_far.parts ∙ sym (append_assoc so_far.before (line ∷ []) left);
  count = one_more so_far.before line number so_far.count;
  said = said_more so_far.before line commands more adds so_far.said;
}

pub read_all_lines : (lines : List (List ℕ)) (commands : List Command) (number : ℕ) → IsReadSoFar lines commands number [] → LinesSay lines commands
read_all_lines lines commands number so_far =
    let P : List (List ℕ) → Type 0 = λ ls. LinesSay ls commands in
    subst P (sym (so_far.parts ∙ append-nil so_far.before)) so_far.said

-- what isn't read, and why
pub read_bad : (lines : List (List ℕ)) (commands : List Command) (number : ℕ) (line : List ℕ) (left : List (List ℕ)) (e : LineError) → IsBadHere (number + 1) line e
    → IsReadSoFar lines commands number (line ∷ left) → IsCause lines e
read_bad lines commands number line left (Bad n) here so_far = record {
  before = so_far.before;
  line = line;
  after = left;
  commands = commands;
  parts = so_far.parts;
  number = here.0 ∙ ap (λ k. k + 1) so_far.count;
  said = so_far.said;
  bad = here.1;
}
read_bad lines commands number line left Memory here so_far = tt

-- what is in the grammar is only refused for want of memory
pub only_memory : (lines : List (List ℕ)) (commands : List Command) (e : LineError) → IsCause lines e → LinesSay lines commands → e ≡ Memory
only_memory lines commands (Bad n) bad p = absurd (bad_clash lines n commands bad p)
only_memory lines commands Memory bad p = refl
