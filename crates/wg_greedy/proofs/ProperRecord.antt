-- The canonical record of a list is a proper record of it.
use Rattle.std.proofs.Common.{◌≡◌, ℕ, zero, suc, ◌+◌, ◌<◌, ◌≤◌, min, Bool, true, false, not, ◌||◌, eqb, ltb, leb}
use Rattle.std.proofs.Common.{List, [], ◌∷◌, ◌++◌, length, length-append, refl, sym, ap, subst, ◌∙◌, inl, inr, arith, append_assoc, Result, Ok}
use Rattle.std.specs.Prelude.{Option, Some, None, All, filter}
use Rattle.std.proofs.lemmas.Bool.{cases_lt, or_cases, and_parts, eqb-true, not-true, lt-ltb, cond-true}
use Rattle.std.proofs.lemmas.List.{get_or_past}
use Rattle.std.proofs.lemmas.List.Folds.{list_all-append}
use Rattle.wg_graph.specs.Numbers.{is_in}
use Rattle.wg_graph.specs.Copied.{copied_members}
use Rattle.wg_graph.proofs.Sets.{ascending_is, where_none, where_same, below_more}
use Rattle.wg_params.specs.Parameters.{Parameters, IsWithinLimits}
use Rattle.wg_codes.specs.Words.{top}
use Rattle.wg_blocks.specs.Canonical.{canonical_blocks}
use Rattle.wg_blocks.proofs.Alternate.{copy_successors, end_within, later_some}
use Rattle.wg_grammar.specs.declared.fault.Field.TheVariants as field
use Rattle.wg_grammar.specs.declared.need.Need.TheVariants as need
use Rattle.wg_grammar.specs.Context.{Known, Context, referenced, depth_of}
use Rattle.wg_grammar.specs.SoFar.{SoFar, nothing_yet, value_or_0, copied, extra}
use Rattle.wg_grammar.specs.Refusal.{passes}
use Rattle.wg_grammar.specs.Next.{next}
use Rattle.wg_grammar.specs.Members.{is_member, list_of}
use Rattle.wg_grammar.specs.Record.{Fields, Whole, ReadsRecord}
use Rattle.wg_grammar.specs.declared.fault.Fault.{Fault}
use Rattle.wg_greedy.specs.Fields.{Written, written, bits_of_fields, all_have_words, extras, extra_fields, block_fields, reference_fields, copy_fields, reference_of, record_fields}
use Rattle.wg_greedy.specs.Greedy.{canonical, size_of, is_candidate}
use Rattle.wg_greedy.specs.Laws.{IsList}
use Rattle.wg_greedy.proofs.Extra.{ascends-filter}
use Rattle.wg_greedy.proofs.Least.{within}
use Rattle.wg_greedy.proofs.NoReference.{no_reference_has, short_list}
use Rattle.wg_greedy.proofs.Short.{few_blocks, below_filter}
use Rattle.wg_greedy.proofs.ProperFields.{Admits, admits_append, admitted_stand, fields_append, one_check, bits_append, bits_moved, end_moved, values_of}
use Rattle.wg_greedy.proofs.ProperStages.{IsPastCopies}
use Rattle.wg_greedy.proofs.ProperLists.{copied_and_extra, copied_or_extra}
use Rattle.wg_greedy.proofs.ProperFront.{reading, outdegree_next, outdegree_fine, outdegree_read, named, named_none, reference_admitted}
use Rattle.wg_greedy.proofs.ProperFront.{blocks_admitted, check_next, check_fine, check_read, referring, past_blocks, past_no_reference}
use Rattle.wg_greedy.proofs.ProperExtras.{ExtrasRead, extras_stand}

-- ---- what a candidate is

-- the list that a reference names ascends below the number of pages
named_list : (p : Parameters) (behind : List Known) (r : ℕ) → All (λ (k : Known). IsList p k.list) behind → IsList p (referenced behind r)
named_list p behind r h = grind (arith, cases_lt, get_or_past)

none_passes : (chain : Option ℕ) → passes chain 0 ≡ false
none_passes chain = grind arith

-- what a reference that may be taken has
record Candidate (p : Parameters) (c : Context) (list : List ℕ) (r : ℕ) : Type 0 where
  pub near : r ≤ min p.window c.page
  pub chain : passes p.chain (depth_of c.behind r) ≡ false
  pub words : all_have_words (canonical p c list r) ≡ true

candidate_is : (p : Parameters) (c : Context) (list : List ℕ) (r : ℕ) → IsWithinLimits p → c.page < p.nodes → IsList p list → is_candidate p c list r ≡ true → Candidate p c list r
candidate_is p c list r limits here is may =
    elim (or_cases (eqb r 0) _ may) [
      | inl e ↦
          let none : r ≡ 0 = eqb-true r 0 e in
          subst (Candidate p c list) (sym none) (record {
            near = omega arith;
            chain = none_passes p.chain;
            words = no_reference_has p c.page p.nodes list limits (let n = limits.nodes in omega (arith, n)) here is.ascends is.below;
          })
      | inr k ↦
          let parts = and_parts _ (all_have_words (canonical p c list r)) k in
          record { near = within p c list r may; chain = not-true (passes p.chain (depth_of c.behind r)) (and_parts _ _ parts.0).1; words = parts.1 }
    ]

-- ---- up to where all is copied

-- the outdegree, and what comes before the successors that are not copied
abbrev front_fields : Parameters → ℕ → List ℕ → List ℕ → List Written
front_fields p r asked list = written field.Outdegree p.outdegrees (length list) ∷ (reference_fields p r ++ copy_fields p r asked list)

-- it has been read up to where all is copied
record FrontRead (p : Parameters) (c : Context) (list : List ℕ) (r : ℕ) (before rest : List Bool) : Type 0 where
  pub so_far : SoFar
  pub values : List ℕ
  pub read : Fields p c (before ++ (bits_of_fields (front_fields p r (referenced c.behind r) list) ++ rest)) nothing_yet (length before) values so_far
      (length before + length (bits_of_fields (front_fields p r (referenced c.behind r) list)))
  pub past : IsPastCopies p c so_far
  pub outdegree : so_far.outdegree ≡ Some (length list)
  pub refers : value_or_0 so_far.reference ≡ r
  pub copies : copied c so_far ≡ filter (λ y. is_in y list) (referenced c.behind r)

begins : (p : Parameters) (c : Context) (d : ℕ) (fs : List Written) (t : SoFar) → d ≤ p.nodes → c.arcs_before + d ≤ p.arcs
    → Admits p c (reading d None None [] false) fs t → Admits p c nothing_yet (written field.Outdegree p.outdegrees d ∷ fs) t
begins p c d fs t few total more = (outdegree_next p c, outdegree_fine p c d few total, subst (λ (z : SoFar). Admits p c z fs t) (sym (outdegree_read p c d)) more)

none_copied : (c : Context) (d : ℕ) (o : Option ℕ) → value_or_0 o ≡ 0 → copied c (reading d o None [] false) ≡ []
unfolding copied_members
none_copied c d o none = ap (λ k. copied_members [] (referenced c.behind k)) none

module _ (p : Parameters) (c : Context) where
  front_alone : (list : List ℕ) (before rest : List Bool) → 0 < length list → length list ≤ p.nodes → c.arcs_before + length list ≤ p.arcs
      → all_have_words (front_fields p 0 [] list) ≡ true → FrontRead p c list 0 before rest
  front_alone list before rest some few total words =
      let d : ℕ = length list in
      let s : SoFar = reading d (named p 0) None [] false in
      let admits : Admits p c nothing_yet (front_fields p 0 [] list) s =
      begins p c d (reference_fields p 0 ++ copy_fields p 0 [] list) s few total
      (admits_append p c (reading d None None [] false) s s (reference_fields p 0) [] (reference_admitted p c d 0 some (omega arith) (none_passes p.chain)) refl) in
      record {
        so_far = s;
        values = values_of (front_fields p 0 [] list);
        read = admitted_stand p c nothing_yet s (front_fields p 0 [] list) before rest words admits;
        past = past_no_reference p c d some;
        outdegree = refl;
        refers = named_none p;
        copies = none_copied c d (named p 0) (named_none p);
      }

  front_referring : (list : List ℕ) (r : ℕ) (before rest : List Bool) → 0 < length list → length list ≤ p.nodes → c.arcs_before + length list ≤ p.arcs → 0 < r
      → Candidate p c list r → IsList p list → IsList p (referenced c.behind r) → all_have_words (front_fields p r (referenced c.behind r) list) ≡ true
      → FrontRead p c list r before rest
  front_referring list r before rest some few total refers is list_is asked_is words =
      let d : ℕ = length list in
      let asked : List ℕ = referenced c.behind r in
      let blocks : List ℕ = canonical_blocks list asked in
      let n : ℕ = length blocks in
      let window : 0 < p.window = let near = is.near in omega (arith, near, refers) in
      let u : SoFar = referring d r n blocks false in
      let s : SoFar = referring d r n blocks true in
      let named_is : named p r ≡ Some r = cond-true (ltb 0 p.window) (Some r) None (lt-ltb 0 p.window window) in
      let reference : Admits p c (reading d None None [] false) (reference_fields p r) (reading d (Some r) None [] false) =
      subst (λ (o : Option ℕ). Admits p c (reading d None None [] false) (reference_fields p r) (reading d o None [] false)) named_is (reference_admitted p c d r some is.near is.chain) in
      let copies_is : copy_fields p r asked list ≡ block_fields p blocks = cond-true (ltb 0 r) (block_fields p blocks) [] (lt-ltb 0 r refers) in
      let copies : Admits p c (reading d (Some r) None [] false) (copy_fields p r asked list) u =
      subst (λ fs. Admits p c (reading d (Some r) None [] false) fs u) (sym copies_is)
      (blocks_admitted p c d r blocks some refers window (few_blocks list asked) (end_within list asked) (later_some list asked)) in
      let admits : Admits p c nothing_yet (front_fields p r asked list) u =
      begins p c d (reference_fields p r ++ copy_fields p r asked list) u few total
      (admits_append p c (reading d None None [] false) (reading d (Some r) None [] false) u (reference_fields p r) (copy_fields p r asked list) reference copies) in
      let copied_is : copied c u ≡ filter (λ y. is_in y list) asked = copy_successors list asked in
      let fits : length (copied c u) ≤ d = omega (arith, ap length copied_is, copied_and_extra p.nodes list asked list_is.ascends list_is.below asked_is.ascends asked_is.below) in
      let bits : List Bool = before ++ (bits_of_fields (front_fields p r asked list) ++ rest) in
      let end : ℕ = length before + length (bits_of_fields (front_fields p r asked list)) in
      let checked : Fields p c bits u end (0 ∷ []) s end =
      subst (λ (z : SoFar). Fields p c bits u end (0 ∷ []) z end) (check_read p c d r n blocks)
      (one_check p c bits u end (check_next p c d r blocks some refers window) (check_fine p c d r n blocks fits)) in
      record {
        so_far = s;
        values = values_of (front_fields p r asked list) ++ 0 ∷ [];
        read = fields_append p c bits nothing_yet u s (length before) end end (values_of (front_fields p r asked list)) (0 ∷ [])
            (admitted_stand p c nothing_yet u (front_fields p r asked list) before rest words admits) checked;
        past = past_blocks p c d r blocks some window;
        outdegree = refl;
        refers = refl;
        copies = copied_is;
      }

  front_stands : (list : List ℕ) (r : ℕ) (before rest : List Bool) → 0 < length list → length list ≤ p.nodes → c.arcs_before + length list ≤ p.arcs → Candidate p c list r
      → IsList p list → IsList p (referenced c.behind r) → all_have_words (front_fields p r (referenced c.behind r) list) ≡ true → FrontRead p c list r before rest
  front_stands list zero before rest some few total is list_is asked_is words = front_alone list before rest some few total words
  front_stands list (suc i) before rest some few total is list_is asked_is words = front_referring list (suc i) before rest some few total (omega arith) is list_is asked_is words

-- ---- its list

or_assoc : (a b d : Bool) → ((a || b) || d) ≡ (a || (b || d))
or_assoc a b d = grind arith

members_are : (p : Parameters) (c : Context) (s t : SoFar) (list asked : List ℕ) → copied c s ≡ filter (λ y. is_in y list) asked → ExtrasRead p c s t (extras list asked)
    → (y : ℕ) → is_member c t y ≡ is_in y list
members_are p c s t list asked copies read y = grind (arith, copied_or_extra, or_assoc)

list_is_read : (p : Parameters) (c : Context) (t : SoFar) (list : List ℕ) → IsList p list → ((y : ℕ) → is_member c t y ≡ is_in y list) → list_of p c t ≡ list
unfolding list_of
list_is_read p c t list is members =
    where_same (is_member c t) (λ y. is_in y list) 0 p.nodes (λ y first last. members y) ∙ sym (ascending_is 0 p.nodes list is.ascends (below_more p.nodes (0 + p.nodes) list (omega arith) is.below))

-- ---- the whole

-- a record of this list and depth, up to this bit
abbrev pub proper : List ℕ → ℕ → ℕ → Result Whole Fault
proper list depth end = Ok (record { known = record { list = list; depth = depth }; end = end })

module _ (p : Parameters) (c : Context) where
  some_read : (list : List ℕ) (r : ℕ) (before rest : List Bool) → IsWithinLimits p → c.page < p.nodes → IsList p list → IsList p (referenced c.behind r)
      → all_have_words (extra_fields p c.page (extras list (referenced c.behind r))) ≡ true
      → FrontRead p c list r before (bits_of_fields (extra_fields p c.page (extras list (referenced c.behind r))) ++ rest)
      → ReadsRecord p c (before ++ ((bits_of_fields (front_fields p r (referenced c.behind r) list) ++ bits_of_fields
      (extra_fields p c.page (extras list (referenced c.behind r)))) ++ rest)) (length before)
      (proper list (depth_of c.behind r) (length before + length (bits_of_fields (front_fields p r (referenced c.behind r) list) ++ bits_of_fields
      (extra_fields p c.page (extras list (referenced c.behind r))))))
  some_read list r before rest limits here is asked_is words f =
      let asked : List ℕ = referenced c.behind r in
      let xs : List ℕ = extras list asked in
      let front : List Bool = bits_of_fields (front_fields p r asked list) in
      let more : List Bool = bits_of_fields (extra_fields p c.page xs) in
      let bits : List Bool = before ++ ((front ++ more) ++ rest) in
      let s : SoFar = f.so_far in
      let outside : ℕ → Bool = λ y. not (is_in y asked) in
      let missing : extra c s ≡ length xs = omega (arith, ap value_or_0 f.outdegree, ap length f.copies, copied_and_extra p.nodes list asked is.ascends is.below asked_is.ascends asked_is.below) in
      let e = extras_stand p c s xs (before ++ front) rest limits here f.past (ascends-filter outside 0 list is.ascends) (below_filter outside p.nodes list is.below) missing words in
      let t : SoFar = e.0 in
      let end : ℕ = length (before ++ front) + length more in
      let first : Fields p c bits nothing_yet (length before) f.values s (length before + length front) =
      subst (λ z. Fields p c z nothing_yet (length before) f.values s (length before + length front)) (ap (λ z. before ++ z) (sym (append_assoc front more rest))) f.read in
      let second : Fields p c bits s (length before + length front) e.1 t end =
      subst (λ k. Fields p c bits s k e.1 t end) (length-append before front) (subst (λ z. Fields p c z s (length (before ++ front)) e.1 t end) (sym (bits_moved before front more rest)) e.2) in
      let all : Fields p c bits nothing_yet (length before) (f.values ++ e.1) t (length before + length (front ++ more)) =
      subst (Fields p c bits nothing_yet (length before) (f.values ++ e.1) t) (end_moved before front more)
      (fields_append p c bits nothing_yet s t (length before) (length before + length front) end f.values e.1 first second) in
      let list_same : list_of p c t ≡ list = list_is_read p c t list is (members_are p c s t list asked f.copies e.3) in
      let degree : value_or_0 t.outdegree ≡ length list = ap value_or_0 (e.3.outdegree ∙ f.outdegree) in
      let named_same : value_or_0 t.reference ≡ r = ap value_or_0 e.3.reference ∙ f.refers in
      (f.values ++ e.1, t, length before + length (front ++ more), all, (e.3.ends, ap length list_same ∙ sym degree, sym list_same, ap (depth_of c.behind) (sym named_same), refl))

  -- a page without successors has the outdegree alone
  empty_ends : next p c (reading 0 None None [] false) ≡ need.End
  unfolding next
  empty_ends = refl

  empty_list : list_of p c (reading 0 None None [] false) ≡ []
  unfolding list_of copied_members
  empty_list = where_none (is_member c (reading 0 None None [] false)) 0 p.nodes (λ y low high. refl)

abbrev empty_fields : Parameters → List Written
empty_fields p = written field.Outdegree p.outdegrees 0 ∷ []

empty_read : (p : Parameters) (c : Context) (before rest : List Bool) → c.arcs_before + 0 ≤ p.arcs → all_have_words (empty_fields p) ≡ true
    → ReadsRecord p c (before ++ (bits_of_fields (empty_fields p) ++ rest)) (length before) (proper [] 0 (length before + length (bits_of_fields (empty_fields p))))
empty_read p c before rest total words =
    let s : SoFar = reading 0 None None [] false in
    let admits : Admits p c nothing_yet (empty_fields p) s = begins p c 0 [] s (omega arith) total refl in
    let is : list_of p c s ≡ [] = empty_list p c in (
      values_of (empty_fields p),
      s,
      length before + length (bits_of_fields (empty_fields p)),
      admitted_stand p c nothing_yet s (empty_fields p) before rest words admits,
      (empty_ends p c, ap length is, sym is, refl, refl),
    )

pub canonical_proper : (p : Parameters) (c : Context) (list : List ℕ) (r : ℕ) (before rest : List Bool) → IsWithinLimits p → c.page < p.nodes
    → All (λ (k : Known). IsList p k.list) c.behind → IsList p list → c.arcs_before + length list ≤ p.arcs → is_candidate p c list r ≡ true
    → ReadsRecord p c (before ++ (bits_of_fields (canonical p c list r) ++ rest)) (length before) (proper list (depth_of c.behind (reference_of list r)) (length before + size_of p c list r))
unfolding record_fields
canonical_proper p c [] r before rest limits here behind is total may = empty_read p c before rest total (candidate_is p c [] r limits here is may).words
canonical_proper p c (y ∷ ys) r before rest limits here behind is total may =
    let list : List ℕ = y ∷ ys in
    let asked : List ℕ = referenced c.behind r in
    let xs : List ℕ = extras list asked in
    let fronts : List Written = front_fields p r asked list in
    let others : List Written = extra_fields p c.page xs in
    let asked_is : IsList p asked = named_list p c.behind r behind in
    let candidate : Candidate p c list r = candidate_is p c list r limits here is may in
    let words = and_parts (all_have_words fronts) (all_have_words others) (sym (list_all-append (λ (f : Written). leb f.value (top f.code)) fronts others) ∙ candidate.words) in
    let few : length list ≤ p.nodes = omega (arith, short_list 0 p.nodes list is.ascends is.below) in
    subst (λ z. ReadsRecord p c (before ++ (z ++ rest)) (length before) (proper list (depth_of c.behind r) (length before + length z))) (sym (bits_append fronts others))
    (some_read p c list r before rest limits here is asked_is words.1 (front_stands p c list r before (bits_of_fields others ++ rest) (omega arith) few total candidate is asked_is words.0))
