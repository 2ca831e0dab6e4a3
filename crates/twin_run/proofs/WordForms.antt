-- The forms of words.
use Rattle.std.proofs.Common.{◌≡◌, ℕ, suc, ◌-◌, ◌<◌, ◌≤◌, List, [], ◌∷◌, length, get_or, take, drop, Option, Some, None, refl, ap, sym, ◌∙◌, subst, arith}
use Rattle.std.specs.Prelude.{String, string_bytes, codes, is_some, true}
use Rattle.std.specs.declared.alloc.Global.{Global}
use Rattle.std.proofs.lemmas.Fmt.{decimal_injective}
use Rattle.std.proofs.Math.Seq.{take-length}
use Rattle.line_text.specs.Said.{IsTheOne, IsNumberWord}
use Rattle.twin_run.specs.Words.{texts_of, IsFolder, SayTask, SayFor, WordsSay, WordsName}
use Rattle.twin_run.specs.declared.words.Task.{Task}
use Rattle.twin_run.specs.declared.words.Task.TheVariants.{Commands, Generate}

-- a word is one number
one_number : (word : List ℕ) (m n : ℕ) → IsNumberWord word m → IsNumberWord word n → m ≡ n
one_number word m n a b = decimal_injective m n a.fits b.fits (sym a.digits ∙ b.digits)

-- three words with a count that is too great say no task
pub too_many : (option first second : List ℕ) (count : ℕ) → IsNumberWord second count → 10000 < count → (task : Task)
    → SayTask (option ∷ first ∷ second ∷ []) task → ⊥
too_many option first second count is many Commands said = absurd (cc)
too_many option first second count is many (Generate number other) said =
    let same : second ≡ said.1 = cc in
    let one = one_number second count other is (subst (λ w. IsNumberWord w other) (sym same) said.4) in
    let few = said.5 in
    omega arith

take_whole : (words : List (String Global)) → take (suc (length words) - 1) words ≡ words
take_whole words = let e : suc (length words) - 1 ≡ length words = omega arith in rw e (take-length words)

-- words are the first of them and the rest
pub words_parts : (words : List (String Global)) (first : String Global) → 1 ≤ length words
    → first ≡ get_or words 0 first
    → texts_of words ≡ string_bytes first ∷ texts_of (take (length words - 1) (drop 1 words))
words_parts [] first some is = absurd (omega arith)
words_parts (word ∷ words) first some is =
    ap (λ (t : List ℕ). t ∷ texts_of words) (ap string_bytes (sym is))
    ∙ ap (λ (ws : List (String Global)). string_bytes first ∷ texts_of ws) (sym (take_whole words))

-- no option names a folder
no_folder : (first second : List ℕ) (words rest : List (List ℕ)) → first ∷ words ≡ codes "--gen" ∷ rest
    → IsFolder first → ⊥
no_folder first second words rest e folder =
    let is : first ≡ codes "--gen" = cc in
    let P : List ℕ → Type 0 = λ w. IsFolder w in
    (subst P is folder) refl

-- where the first word names a folder those behind it say the task
none_said : (first : List ℕ) (rest : List (List ℕ)) → IsFolder first → ((task : Task) → SayTask rest task → ⊥)
    → (task : Task) (folder : Option (List ℕ)) → SayFor (first ∷ rest) folder task → ⊥
none_said first rest is none Commands None said = absurd (cc)
none_said first rest is none (Generate number count) None said = no_folder first [] rest _ said.2 is
none_said first rest is none task (Some folder) said =
    let same : rest ≡ said.0 = cc in
    none task (subst (λ ws. SayTask ws task) (sym same) said.3)

pub with_folder : (first : List ℕ) (rest : List (List ℕ)) (found : Option Task) → IsFolder first
    → IsTheOne found (SayTask rest) → IsTheOne found (WordsSay (first ∷ rest))
with_folder first rest None is none = λ task said. none_said first rest is none task said.0 said.1
with_folder first rest (Some task) is said = (Some first, (rest, refl, is, said))

-- that folder is named, where there is a task
pub folder_named : (first : List ℕ) (rest : List (List ℕ)) (found : Option Task) → IsFolder first
    → IsTheOne found (SayTask rest) → is_some found ≡ true → WordsName (first ∷ rest) first
folder_named first rest None is none some = absurd (cc)
folder_named first rest (Some task) is said some = (task, (rest, refl, is, said))

-- ---- one task

said_once : (words : List (List ℕ)) (s t : Task) → SayTask words s → SayTask words t → s ≡ t
said_once words Commands Commands p q = refl
said_once words Commands (Generate number count) p q = let e = q.2 in absurd (cc)
said_once words (Generate number count) Commands p q = let e = p.2 in absurd (cc)
said_once words (Generate number count) (Generate other more) p q =
    let e = p.2 in
    let f = q.2 in
    let first : q.0 ≡ p.0 = cc in
    let second : q.1 ≡ p.1 = cc in
    let numbers : number ≡ other = one_number p.0 number other p.3 (subst (λ w. IsNumberWord w other) first q.3) in
    let counts : count ≡ more = one_number p.1 count more p.4 (subst (λ w. IsNumberWord w more) second q.4) in
    cc

-- words with a folder say no task without it
said_otherwise : (words : List (List ℕ)) (folder : List ℕ) (s t : Task) → SayTask words s → SayFor words (Some folder) t
    → ⊥
said_otherwise words folder Commands t p q = let e = q.1 in absurd (cc)
said_otherwise words folder (Generate number count) t p q =
    no_folder folder [] q.0 (p.0 ∷ p.1 ∷ []) (sym q.1 ∙ p.2) q.2

-- words say one task
one_for : (words : List (List ℕ)) (f g : Option (List ℕ)) (s t : Task) → SayFor words f s → SayFor words g t → s ≡ t
one_for words None None s t p q = said_once words s t p q
one_for words None (Some folder) s t p q = absurd (said_otherwise words folder s t p q)
one_for words (Some folder) None s t p q = absurd (said_otherwise words folder t s q p)
one_for words (Some folder) (Some other) s t p q =
    let e = p.1 in
    let f = q.1 in
    let same : q.0 ≡ p.0 = cc in
    said_once p.0 s t p.3 (subst (λ ws. SayTask ws t) same q.3)

pub one_task : (words : List (List ℕ)) (s t : Task) → WordsSay words s → WordsSay words t → s ≡ t
one_task words s t p q = one_for words p.0 q.0 s t p.1 q.1

-- words say few rounds
few_for : (words : List (List ℕ)) (f : Option (List ℕ)) (number count : ℕ) → SayFor words f (Generate number count)
    → count ≤ 10000
few_for words None number count said = said.5
few_for words (Some folder) number count said = said.3.5

pub few_rounds : (words : List (List ℕ)) (task : Task) (number count : ℕ) → WordsSay words task
    → task ≡ Generate number count → count ≤ 10000
few_rounds words task number count said is =
    let now = subst (λ (t : Task). WordsSay words t) is said in
    few_for words now.0 number count now.1
