-- What is kept for a key.
use Rattle.std.proofs.Common.{◌≡◌, ◌≢◌, ℕ, ◌<◌, List, [], ◌∷◌, length, map, get_or, set, Option, Some, None, refl, ap, sym, ◌∙◌, arith, Bor, Bool, true, false, not, cond}
use Rattle.std.specs.Option.{option_copied}
use Rattle.std.specs.List.{last_or, find}
use Rattle.std.specs.Str.{bytes_eq}
use Rattle.std.proofs.lemmas.Bool.{true≢false}
use Rattle.std.proofs.lemmas.Option.{none-some, same_Some}
use Rattle.std.proofs.lemmas.Slice.Eq.{bytes_eq-Decides}
use Rattle.std.proofs.lemmas.List.{get_or-map, map-set, get_or-set_same, get_or-set_other, length-map}
use Rattle.wg_params.specs.declared.key.Key.{Key}
use Rattle.wg_params.specs.declared.key.Key.TheVariants.{GraphClass}
use Rattle.wg_properties.specs.declared.keys.TheConstants.{KEYS}
use Rattle.wg_num.specs.Lines.{without_blanks_before}
use Rattle.wg_properties.specs.Pairs.{is_skipped, key_in, value_in, pairs_of, values_of, key_of}
use Rattle.wg_properties.specs.Values.{place_of, value_at}
use Rattle.wg_properties.specs.Words.{name_of}

key_at : (k : Key) → get_or KEYS (place_of k) GraphClass ≡ k
key_at k = grind arith

-- no two keys have one place
pub place_injective : (k j : Key) → place_of k ≡ place_of j → k ≡ j
place_injective k j e = sym (key_at k) ∙ ap (λ n. get_or KEYS n GraphClass) e ∙ key_at j

abbrev Kept : Type 0
Kept = List (Option (Bor (List ℕ)))

pub kept_get : (values : Kept) (k : Key) (n : ℕ) → n ≡ place_of k → n < length values → option_copied (get_or values n None) ≡ value_at (map option_copied values) k
kept_get values k n e h = sym (get_or-map option_copied values n None None h) ∙ ap (λ m. get_or (map option_copied values) m None) e

pub kept_set : (values : Kept) (k : Key) (n : ℕ) (v : Bor (List ℕ)) → n ≡ place_of k → n < length values → value_at (map option_copied (set values n (Some v))) k ≡ Some v.now
kept_set values k n v e h = grind (arith, map-set, get_or-set_same, length-map)

pub kept_other : (values : Kept) (k j : Key) (n : ℕ) (v : Bor (List ℕ)) → n ≡ place_of k → j ≢ k → value_at (map option_copied (set values n (Some v))) j ≡ value_at (map option_copied values) j
kept_other values k j n v e other =
    ap (λ vs. get_or vs (place_of j) None) (map-set option_copied values n (Some v))
    ∙ get_or-set_other (map option_copied values) n (place_of j) (Some v.now) None (λ same. other (place_injective j k (same ∙ e)))

-- each key's name is that key's alone
key_of-name_of : (k : Key) → key_of (name_of k) ≡ Some k
unfolding key_of name_of
key_of-name_of k = grind arith

found_passes : {X : Type 0} (p : X → Bool) (xs : List X) (x : X) → find p xs ≡ Some x → p x ≡ true
found_passes p [] x e = absurd (none-some x e)
found_passes {X} p (y ∷ ys) x e = at (p y) refl e (found_passes p ys x)
  where
    at : (t : Bool) → p y ≡ t → cond t (Some y) (find p ys) ≡ Some x → (find p ys ≡ Some x → p x ≡ true) → p x ≡ true
    at true passes found later = ap p (sym (same_Some y x found)) ∙ passes
    at false passes found later = later found

name_from_key : (name : List ℕ) (k : Key) → key_of name ≡ Some k → bytes_eq name (name_of k) ≡ true
unfolding key_of
name_from_key name k e = found_passes (λ key. bytes_eq name (name_of key)) KEYS k e

key_from_name : (name : List ℕ) (k : Key) → bytes_eq name (name_of k) ≡ true → key_of name ≡ Some k
key_from_name name k e = ap key_of ((bytes_eq-Decides name (name_of k)).0 e) ∙ key_of-name_of k

pub pairs_one : (line : List ℕ) → is_skipped (without_blanks_before line) ≡ false → pairs_of (line ∷ []) ≡ (key_in (without_blanks_before line), value_in (without_blanks_before line)) ∷ []
pairs_one line e = ap (λ t. map (λ line. (key_in line, value_in line)) (cond (not t) (without_blanks_before line ∷ []) [])) e

-- one pair more, of a key
pub one_more : (old new : List (Option (List ℕ))) (key : Key) (name value : List ℕ) → key_of name ≡ Some key → value_at new key ≡ Some value → ((k : Key) → k ≢ key → value_at new k ≡ value_at old k) → (k : Key) → value_at new k ≡ last_or (value_at old k) (values_of (name_of k) ((name, value) ∷ []))
one_more old new key name value is set others k = at (bytes_eq name (name_of k)) refl
  where
    at : (t : Bool) → bytes_eq name (name_of k) ≡ t → value_at new k ≡ last_or (value_at old k) (map (λ (pair : List ℕ × List ℕ). pair.1) (cond t ((name, value) ∷ []) []))
    at true e = ap (value_at new) (same_Some _ _ (sym (key_from_name name k e) ∙ is)) ∙ set
    at false e = others k (λ same. true≢false (sym (name_from_key name key is) ∙ ap (λ j. bytes_eq name (name_of j)) (sym same) ∙ e))

-- one pair more, of no key
pub one_ignored : (old : List (Option (List ℕ))) (name value : List ℕ) → key_of name ≡ None → (k : Key) → value_at old k ≡ last_or (value_at old k) (values_of (name_of k) ((name, value) ∷ []))
one_ignored old name value is k = at (bytes_eq name (name_of k)) refl
  where
    at : (t : Bool) → bytes_eq name (name_of k) ≡ t → value_at old k ≡ last_or (value_at old k) (map (λ (pair : List ℕ × List ℕ). pair.1) (cond t ((name, value) ∷ []) []))
    at true e = absurd (none-some k (sym is ∙ key_from_name name k e))
    at false e = refl
