-- Lengths of records, of which one more is compared.
use Rattle.std.proofs.Common.{◌≡◌, ◌≢◌, ◌⊎◌, ℕ, ◌+◌, ◌-◌, ◌<◌, ◌≤◌, List, [], ◌∷◌, ◌++◌, length, Option, Some, None, IfSome, IfNone, refl, sym, ◌∙◌, ap, subst, ⊎_elim, arith, length-append}
use Rattle.std.proofs.lemmas.List.{get_or_append_left, get_or_push}
use Rattle.std.proofs.lemmas.Bool.{cases_lt}
use Rattle.wg_offsets.specs.Places.{last_place, record_length, AgreeInLengths, IsFirstMismatch}
use Rattle.wg_offsets.specs.Comparing.{Judges}

-- an earlier record keeps its length
earlier : (places : List ℕ) (e x : ℕ) → x + 1 < length places → record_length (places ++ e ∷ []) x ≡ record_length places x
earlier places e x lt = grind (arith, get_or_append_left)

-- the last record goes from the last offset to the new one
latest : (places : List ℕ) (e page : ℕ) → length places ≡ page + 1 → record_length (places ++ e ∷ []) page ≡ e - last_place places
latest places e page many = grind (arith, get_or_append_left, get_or_push)

module _ (p q : List ℕ) (here there page : ℕ) (many_p : length p ≡ page + 1) (many_q : length q ≡ page + 1) where
  -- all agree, and so does one more
  pub agrees_more : AgreeInLengths p q → here - last_place p ≡ there - last_place q → AgreeInLengths (p ++ here ∷ []) (q ++ there ∷ [])
  agrees_more agree same x lt = ⊎_elim
      (λ (l : x < page). earlier p here x (omega (arith, l, many_p)) ∙ agree x (omega (arith, l, many_p)) ∙ sym (earlier q there x (omega (arith, l, many_q))))
      (λ (l : page ≤ x).
      let is : x ≡ page = omega (arith, l, lt, length-append p (here ∷ []), many_p) in
      ap (record_length (p ++ here ∷ [])) is ∙ latest p here page many_p ∙ same ∙ sym (latest q there page many_q) ∙ ap (record_length (q ++ there ∷ [])) (sym is))
      (cases_lt x page)

  -- all agree, and one more does not
  pub differs_more : AgreeInLengths p q → (a b : ℕ) → a ≡ here - last_place p → b ≡ there - last_place q → a ≢ b → IsFirstMismatch (p ++ here ∷ []) (q ++ there ∷ []) page a b
  differs_more agree a b is_a is_b differ = record {
    is_page = omega (arith, length-append p (here ∷ []), many_p);
    same_before = λ x l. earlier p here x (omega (arith, l, many_p)) ∙ agree x (omega (arith, l, many_p)) ∙ sym (earlier q there x (omega (arith, l, many_q)));
    here_is = is_a ∙ sym (latest p here page many_p);
    there_is = is_b ∙ sym (latest q there page many_q);
    differ = differ;
  }

  -- the first that differs stays the first
  pub stays_first : (m a b : ℕ) → IsFirstMismatch p q m a b → IsFirstMismatch (p ++ here ∷ []) (q ++ there ∷ []) m a b
  stays_first m a b h = record {
    is_page = omega (arith, h.is_page, length-append p (here ∷ []));
    same_before = λ x l.
        earlier p here x (omega (arith, l, h.is_page)) ∙ h.same_before x l ∙ sym (earlier q there x (omega (arith, l, h.is_page, many_p, many_q)));
    here_is = h.here_is ∙ sym (earlier p here m h.is_page);
    there_is = h.there_is ∙ sym (earlier q there m (omega (arith, h.is_page, many_p, many_q)));
    differ = h.differ;
  }

-- what is found of one record more
pub judged_more : (m n : Option (ℕ × ℕ × ℕ)) (p q : List ℕ) (here there page : ℕ) → length p ≡ page + 1 → length q ≡ page + 1 → Judges m p q
    → IfNone n ((m ≡ None) × (here - last_place p ≡ there - last_place q))
    → IfSome n (λ x. (m ≡ Some x) ⊎ ((m ≡ None) × (x ≡ (page, here - last_place p, there - last_place q)) × (here - last_place p ≢ there - last_place q)))
    → Judges n (p ++ here ∷ []) (q ++ there ∷ [])
judged_more m None p q here there page many_p many_q judged none some =
    agrees_more p q here there page many_p many_q (subst (λ (o : Option (ℕ × ℕ × ℕ)). Judges o p q) none.0 judged) none.1
judged_more m (Some x) p q here there page many_p many_q judged none some = ⊎_elim
    (λ (same : m ≡ Some x). stays_first p q here there page many_p many_q x.0 x.1 x.2 (subst (λ (o : Option (ℕ × ℕ × ℕ)). Judges o p q) same judged))
    (λ (new : (m ≡ None) × (x ≡ (page, here - last_place p, there - last_place q)) × (here - last_place p ≢ there - last_place q)).
    subst (λ (y : ℕ × ℕ × ℕ). IsFirstMismatch (p ++ here ∷ []) (q ++ there ∷ []) y.0 y.1 y.2) (sym new.1)
    (differs_more p q here there page many_p many_q (subst (λ (o : Option (ℕ × ℕ × ℕ)). Judges o p q) new.0 judged) (here - last_place p) (there - last_place q) refl refl new.2))
    some
