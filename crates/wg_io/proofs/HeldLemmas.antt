-- What a change of the list of held files means.
use Rattle.std.proofs.Common.{◌≡◌, ◌≢◌, ℕ, zero, suc, ◌<◌, ◌+◌, Bool, true, false, cond, List, [], ◌∷◌, ◌++◌, length, set, take, get_or, ◌≤◌, All, refl, sym, ◌∙◌, ap, subst, arith, add-one, Option, Some, None, slice_get, string_bytes, unwrap_or}
use Rattle.std.proofs.Math.Dec.{eqb}
use Rattle.std.proofs.Math.Seq.{take-suc}
use Rattle.std.proofs.lemmas.List.{take_all}
use Rattle.std.proofs.lemmas.List.Elements.{All-push}
use Rattle.std.proofs.lemmas.Option.{get_or_from_slice_get, slice_get-get_or}
use Rattle.std.specs.Cmp.Lexicographic.{pointwise}
use Rattle.std.specs.FinMap.{get, insert, get-empty}
use Rattle.wg_outside.specs.Outside.{Files, appended}
use Rattle.wg_io.specs.Held.{files_of, IsAt, IsOther}
use Rattle.wg_io.specs.declared.held.Held.{Held}
use Rattle.wg_outside.proofs.FilesLemmas.{is_name, same_name, get-insert_name, get-insert_same, get-insert_other, same_files, insert-insert, texts_equal, texts_differ}

twice : {A : Type 0} (s t : Bool) (x y z : A) → (s ≡ true → t ≡ true → ⊥) → cond s x (cond t y z) ≡ cond t y (cond s x z)
twice true true x y z apart = absurd (apart refl refl)
twice true false x y z apart = refl
twice false true x y z apart = refl
twice false false x y z apart = refl

-- files of two names, in either order
pub insert-swap : (f : Files) (n m a b : List ℕ) → n ≢ m → insert (insert f n a) m b ≡ insert (insert f m b) n a
insert-swap f n m a b apart = same_files _ _ (λ q.
    get-insert_name (insert f n a) m b q ∙ ap (cond (is_name q m) (Some b)) (get-insert_name f n a q)
    ∙ twice (is_name q m) (is_name q n) (Some b) (Some a) (get f q) (λ s t. apart (sym (same_name q n t) ∙ same_name q m s))
    ∙ sym (get-insert_name (insert f m b) n a q ∙ ap (cond (is_name q n) (Some a)) (get-insert_name f m b q)))

-- none of a list, so not its first, and none of the rest
first_other : (name : List ℕ) (h : Held) (rest : List Held) → All (IsOther name) (h ∷ rest) → string_bytes h.name ≢ name
first_other name h rest none = none zero h (omega arith)

rest_other : (name : List ℕ) (h : Held) (rest : List Held) → All (IsOther name) (h ∷ rest) → All (IsOther name) rest
rest_other name h rest none = λ k d lt. none (suc k) d (omega (arith, lt))

-- another content for the first file of a name
pub files_set : (hs : List Held) (i : ℕ) (name : List ℕ) (new : Held) → i < length hs → All (IsOther name) (take i hs)
    → ((h : Held) → slice_get hs i ≡ Some h → string_bytes h.name ≡ name) → string_bytes new.name ≡ name
    → files_of (set hs i new) ≡ insert (files_of hs) name new.bytes.items
files_set [] i name new lt none here is = absurd (omega arith)
files_set (h ∷ rest) zero name new lt none here is =
    ap (λ n. insert (files_of rest) n new.bytes.items) is
    ∙ sym (ap (λ n. insert (insert (files_of rest) n h.bytes.items) name new.bytes.items) (here h refl) ∙ insert-insert (files_of rest) name h.bytes.items new.bytes.items)
files_set (h ∷ rest) (suc i) name new lt none here is =
    ap (λ (f : Files). insert f (string_bytes h.name) h.bytes.items) (files_set rest i name new (omega arith) (rest_other name h (take i rest) none) here is)
    ∙ insert-swap (files_of rest) name (string_bytes h.name) new.bytes.items h.bytes.items (λ e. first_other name h (take i rest) none (sym e))

-- a new name at the end
pub files_push : (hs : List Held) (new : Held) → All (IsOther (string_bytes new.name)) hs → files_of (hs ++ new ∷ []) ≡ insert (files_of hs) (string_bytes new.name) new.bytes.items
files_push [] new none = refl
files_push (h ∷ rest) new none =
    ap (λ (f : Files). insert f (string_bytes h.name) h.bytes.items) (files_push rest new (rest_other (string_bytes new.name) h rest none))
    ∙ insert-swap (files_of rest) (string_bytes new.name) (string_bytes h.name) new.bytes.items h.bytes.items (λ e. first_other (string_bytes new.name) h rest none (sym e))

-- what the first file of a name holds
pub content_at : (hs : List Held) (i : ℕ) (name : List ℕ) (h : Held) → All (IsOther name) (take i hs) → slice_get hs i ≡ Some h → string_bytes h.name ≡ name → get (files_of hs) name ≡ Some h.bytes.items
content_at [] i name h none at is = absurd (cc (at))
content_at (x ∷ rest) zero name h none at is =
    let same : x ≡ h = cc (at) in
    ap (λ n. get (files_of (x ∷ rest)) n) (sym is ∙ ap (λ (y : Held). string_bytes y.name) (sym same)) ∙ get-insert_same (files_of rest) (string_bytes x.name) x.bytes.items ∙ ap (λ (y : Held). Some y.bytes.items) same
content_at (x ∷ rest) (suc i) name h none at is =
    get-insert_other (files_of rest) (string_bytes x.name) x.bytes.items name (λ e. first_other name x (take i rest) none (sym e))
    ∙ content_at rest i name h (rest_other name x (take i rest) none) at is

-- no file of a name
pub content_nowhere : (hs : List Held) (name : List ℕ) → All (IsOther name) hs → get (files_of hs) name ≡ None
content_nowhere [] name none = get-empty _ name
content_nowhere (x ∷ rest) name none =
    get-insert_other (files_of rest) (string_bytes x.name) x.bytes.items name (λ e. first_other name x rest none (sym e)) ∙ content_nowhere rest name (rest_other name x rest none)

-- one file more that is another's
pub one_more_other : (name : List ℕ) (hs : List Held) (i : ℕ) (h : Held) → i < length hs → get_or hs i h ≡ h → string_bytes h.name ≢ name → All (IsOther name) (take i hs) → All (IsOther name) (take (i + 1) hs)
one_more_other name hs i h lt here other none =
    subst (All (IsOther name)) (sym (rw add-one (take-suc hs i h lt ∙ ap (λ (x : Held). take i hs ++ x ∷ []) here)))
    (All-push (IsOther name) (take i hs) h none other)

-- the index of a name, found by its test
pub found_at : (hs : List Held) (i : ℕ) (h : Held) (name text : List ℕ) (r : Bool) → i < length hs → h ≡ get_or hs i h → text ≡ string_bytes h.name
    → r ≡ true → r ≡ pointwise eqb text name → All (IsOther name) (take i hs) → IsAt hs name i
found_at hs i h name text r lt here of is test none = record {
  within = lt;
  named = λ x at. ap (λ (y : Held). string_bytes y.name) (sym (get_or_from_slice_get hs i x h at) ∙ sym here) ∙ sym of ∙ texts_equal text name r is test;
  first = none;
}

-- and an index of another name
pub other_at : (hs : List Held) (i : ℕ) (h : Held) (name text : List ℕ) (r : Bool) → i < length hs → h ≡ get_or hs i h → text ≡ string_bytes h.name
    → r ≡ false → r ≡ pointwise eqb text name → All (IsOther name) (take i hs) → All (IsOther name) (take (i + 1) hs)
other_at hs i h name text r lt here of is test none = one_more_other name hs i h lt (sym here) (λ e. texts_differ text name r is test (of ∙ e)) none

-- a list with other bytes in the file at a name's index
pub put_at : (hs : List Held) (i : ℕ) (name : List ℕ) (h new : Held) → IsAt hs name i → h ≡ get_or hs i h → string_bytes new.name ≡ string_bytes h.name
    → files_of (set hs i new) ≡ insert (files_of hs) name new.bytes.items
put_at hs i name h new at here kept = files_set hs i name new at.within at.first at.named (kept ∙ at.named h (slice_get-get_or hs i h at.within ∙ ap (λ (x : Held). Some x) (sym here)))

-- what stands at a name's index
pub get_at : (hs : List Held) (i : ℕ) (name : List ℕ) (h : Held) → IsAt hs name i → h ≡ get_or hs i h → get (files_of hs) name ≡ Some h.bytes.items
get_at hs i name h at here =
    let is : slice_get hs i ≡ Some h = slice_get-get_or hs i h at.within ∙ ap (λ (x : Held). Some x) (sym here) in
    content_at hs i name h at.first is (at.named h is)

-- bytes more are a new content
pub appended_content : (f : Files) (name old piece : List ℕ) → 0 < length piece → get f name ≡ Some old → insert f name (old ++ piece) ≡ appended f name piece
appended_content f name old [] some is = absurd (omega arith)
appended_content f name old (b ∷ bs) some is = ap (λ (o : Option (List ℕ)). insert f name (unwrap_or o [] ++ b ∷ bs)) (sym is)

pub appended_new : (f : Files) (name piece : List ℕ) → 0 < length piece → get f name ≡ None → insert f name piece ≡ appended f name piece
appended_new f name [] some is = absurd (omega arith)
appended_new f name (b ∷ bs) some is = ap (λ (o : Option (List ℕ)). insert f name (unwrap_or o [] ++ b ∷ bs)) (sym is)

-- none of all
pub all_other : (name : List ℕ) (hs : List Held) (i : ℕ) → length hs ≤ i → All (IsOther name) (take i hs) → All (IsOther name) hs
all_other name hs i le none = subst (All (IsOther name)) (take_all i hs le) none

chosen : {A : Type 0} (t : Bool) (x y : A) → (t ≡ true → x ≡ y) → cond t x y ≡ y
chosen true x y same = same refl
chosen false x y same = refl

-- the content that a file has
pub insert_held : (f : Files) (n b : List ℕ) → get f n ≡ Some b → insert f n b ≡ f
insert_held f n b is = same_files _ _ (λ q. get-insert_name f n b q ∙ chosen (is_name q n) (Some b) (get f q) (λ t. sym (ap (get f) (same_name q n t) ∙ is)))

-- an index's file with bytes more
pub extended_at : (hs : List Held) (i : ℕ) (name piece : List ℕ) (h new : Held) → IsAt hs name i → h ≡ get_or hs i h → string_bytes new.name ≡ string_bytes h.name
    → new.bytes.items ≡ h.bytes.items ++ piece → 0 < length piece → files_of (set hs i new) ≡ appended (files_of hs) name piece
extended_at hs i name piece h new at here kept more some =
    put_at hs i name h new at here kept
    ∙ ap (λ (l : List ℕ). insert (files_of hs) name l) more
    ∙ appended_content (files_of hs) name h.bytes.items piece some (get_at hs i name h at here)

-- an index's file with the bytes that it had
pub unchanged_at : (hs : List Held) (i : ℕ) (name : List ℕ) (h new : Held) → IsAt hs name i → h ≡ get_or hs i h → string_bytes new.name ≡ string_bytes h.name
    → new.bytes.items ≡ h.bytes.items → files_of (set hs i new) ≡ files_of hs
unchanged_at hs i name h new at here kept same =
    put_at hs i name h new at here kept
    ∙ ap (λ (l : List ℕ). insert (files_of hs) name l) same
    ∙ insert_held (files_of hs) name h.bytes.items (get_at hs i name h at here)

-- a new file at the end
pub pushed : (hs : List Held) (name : List ℕ) (new : Held) → All (IsOther name) hs → string_bytes new.name ≡ name → files_of (hs ++ new ∷ []) ≡ insert (files_of hs) name new.bytes.items
pushed hs name new none is =
    files_push hs new (subst (λ (n : List ℕ). All (IsOther n) hs) (sym is) none)
    ∙ ap (λ (n : List ℕ). insert (files_of hs) n new.bytes.items) is
