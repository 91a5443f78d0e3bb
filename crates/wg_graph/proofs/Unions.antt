-- Numbers that are joined to an ascending list, one after the other.
use Rattle.std.proofs.Common.{◌≡◌, ℕ, zero, suc, ◌+◌, ◌<◌, ◌≤◌, Bool, ◌||◌, List, [], ◌∷◌, ◌++◌, length, drop, get_or, refl, sym, ap, subst, ◌∙◌, arith, inl, inr}
use Rattle.std.proofs.lemmas.Bool.{cases_lt, ne_eqb}
use Rattle.std.proofs.lemmas.List.{drop_more, drop_all, append-nil, append_assoc}
use Rattle.wg_graph.specs.Ascending.{Ascends, Below}
use Rattle.wg_graph.specs.Numbers.{is_in, is_in_either, numbers_where}
use Rattle.wg_graph.specs.Joined.{Joined}
use Rattle.wg_graph.proofs.Sets.{where_same, in_past, below_push, below_more, grow_end}
use Rattle.wg_graph.proofs.Merged.{Merging, take_a, take_b, take_both}

in_push_other : (z y : ℕ) (xs : List ℕ) → (z ≡ y → ⊥) → is_in z (xs ++ y ∷ []) ≡ is_in z xs
in_push_other z y [] ne = rw (ne_eqb z y ne) refl
in_push_other z y (x ∷ xs) ne = rw (in_push_other z y xs ne) refl

in_push_past : (m z y : ℕ) (xs : List ℕ) → Below m xs → m ≤ z → is_in z (xs ++ y ∷ []) ≡ is_in z (y ∷ [])
in_push_past m z y [] low le = refl
in_push_past m z y (x ∷ xs) low le = rw (ne_eqb z x (λ e. omega (arith, low.0))) (in_push_past m z y xs low.1 le)

-- on the way to the number y: of the members after those that are taken, those below it are still to come
abbrev pub Nears : List ℕ → List ℕ → ℕ → List ℕ → ℕ → Type 0
Nears members numbers taken out y = (m : ℕ) × Merging members (numbers ++ y ∷ []) (drop taken members) (y ∷ []) out m

pub nears : (members numbers : List ℕ) (taken : ℕ) (out : List ℕ) (m y : ℕ) → m ≤ y → Joined members numbers taken out m → Nears members numbers taken out y
nears members numbers taken out m y le h = (
  m,
  record {
    out_is = h.joined ∙ where_same (is_in_either members numbers) (is_in_either members (numbers ++ y ∷ [])) 0 m (λ z low high. ap (λ (b : Bool). is_in z members || b) (sym (in_push_other z y numbers (λ e. omega arith))));
    up_a = h.ahead;
    up_b = (le, tt);
    rest_a = h.behind;
    rest_b = λ z low. in_push_past m z y numbers h.below low;
  },
)

pub nears_on : (members numbers : List ℕ) (taken : ℕ) (out : List ℕ) (y : ℕ) → taken < length members → get_or members taken 0 < y → Nears members numbers taken out y → Nears members numbers (taken + 1) (out ++ get_or members taken 0 ∷ []) y
nears_on members numbers taken out y here less h =
    let g = subst (λ (xs : List ℕ). Merging members (numbers ++ y ∷ []) xs (y ∷ []) out h.0) (drop_more members taken 0 here) h.1 in
    (suc (get_or members taken 0), take_a members (numbers ++ y ∷ []) (drop (taken + 1) members) (y ∷ []) out h.0 (get_or members taken 0) g (less, tt))

-- the number is there, and the members after those that are taken are above it
reached : (members numbers : List ℕ) (taken : ℕ) (out : List ℕ) (m y : ℕ) → Below m numbers → m ≤ y → Merging members (numbers ++ y ∷ []) (drop taken members) [] out (suc y) → Joined members (numbers ++ y ∷ []) taken out (suc y)
reached members numbers taken out m y low le h = record {
  joined = h.out_is;
  below = below_push (suc y) y numbers (omega arith) (below_more m (suc y) numbers (omega arith) low);
  ahead = h.up_a;
  behind = h.rest_a;
}

-- the number is a member
pub joins_member : (members numbers : List ℕ) (taken : ℕ) (out : List ℕ) (m y : ℕ) → Below m numbers → m ≤ y → Nears members numbers taken out y → taken < length members → get_or members taken 0 ≡ y → Joined members (numbers ++ y ∷ []) (taken + 1) (out ++ y ∷ []) (suc y)
joins_member members numbers taken out m y low le h here same =
    let split : drop taken members ≡ y ∷ drop (taken + 1) members = drop_more members taken 0 here ∙ ap (λ (x : ℕ). x ∷ drop (taken + 1) members) same in
    let g = subst (λ (xs : List ℕ). Merging members (numbers ++ y ∷ []) xs (y ∷ []) out h.0) split h.1 in
    reached members numbers (taken + 1) (out ++ y ∷ []) m y low le (take_both members (numbers ++ y ∷ []) (drop (taken + 1) members) [] out h.0 y g)

above : (members : List ℕ) (taken m y : ℕ) → Ascends m (drop taken members) → (taken < length members → y < get_or members taken 0) → Ascends (suc y) (drop taken members)
above members taken m y up later =
    elim (cases_lt taken (length members)) [
      | inl here ↦ let parts = subst (Ascends m) (drop_more members taken 0 here) up in let more : Ascends (suc y) (get_or members taken 0 ∷ drop (taken + 1) members) = (omega (arith, later here), parts.1) in subst (Ascends (suc y)) (sym (drop_more members taken 0 here)) more
      | inr past ↦ subst (Ascends (suc y)) (sym (drop_all taken members past)) tt
    ]

-- the number is no member
pub joins_between : (members numbers : List ℕ) (taken : ℕ) (out : List ℕ) (m y : ℕ) → Below m numbers → m ≤ y → Nears members numbers taken out y → (taken < length members → y < get_or members taken 0) → Joined members (numbers ++ y ∷ []) taken (out ++ y ∷ []) (suc y)
joins_between members numbers taken out m y low le h later =
    reached members numbers taken (out ++ y ∷ []) m y low le (take_b members (numbers ++ y ∷ []) (drop taken members) [] out h.0 y h.1 (above members taken h.0 y h.1.up_a later))

-- ---- the first number, and the last

pub joined_none : (members : List ℕ) → Ascends 0 members → Joined members [] 0 [] 0
joined_none members up = record { joined = refl; below = tt; ahead = up; behind = λ y low. refl }

-- no number comes any more, and the rest of the members follows
pub rest_follows : (members numbers xs out : List ℕ) (m n : ℕ) → Merging members numbers xs [] out m → m ≤ n → Below n xs → out ++ xs ≡ numbers_where (is_in_either members numbers) 0 n
rest_follows members numbers [] out m n h le low =
    append-nil out ∙ h.out_is ∙ grow_end (is_in_either members numbers) m n le (λ y from to. rw (h.rest_a y from, h.rest_b y from) refl)
rest_follows members numbers (x ∷ xs) out m n h le low =
    sym (append_assoc out (x ∷ []) xs) ∙ rest_follows members numbers xs (out ++ x ∷ []) (suc x) n (take_a members numbers xs [] out m x h tt) low.0 low.1

pub below_drop : (n i : ℕ) (xs : List ℕ) → Below n xs → Below n (drop i xs)
below_drop n zero xs low = low
below_drop n (suc i) [] low = tt
below_drop n (suc i) (x ∷ xs) low = below_drop n i xs low.1

pub joined_all : (members numbers : List ℕ) (taken : ℕ) (out : List ℕ) (m n : ℕ) → Joined members numbers taken out m → m ≤ n → Below n members → out ++ drop taken members ≡ numbers_where (is_in_either members numbers) 0 n
joined_all members numbers taken out m n h le low =
    rest_follows members numbers (drop taken members) out m n
    (record { out_is = h.joined; up_a = h.ahead; up_b = tt; rest_a = h.behind; rest_b = λ y from. in_past m y numbers h.below from }) le (below_drop n taken members low)
