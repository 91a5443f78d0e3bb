-- What the parts of a record take together.
use Rattle.std.proofs.Common.{◌≡◌, ℕ, ◌<◌, ltb, List, [], ◌∷◌, ◌++◌, length, refl, sym, ap, ◌∙◌, arith}
use Rattle.std.proofs.lemmas.Bool.{cond-true, lt-ltb}
use Rattle.wg_params.specs.Parameters.{Parameters}
use Rattle.wg_params.specs.declared.code.Code.{Code}
use Rattle.wg_grammar.specs.declared.fault.Field.TheVariants as field
use Rattle.wg_greedy.specs.Fields.{written, reference_fields, copy_fields, extras, extra_fields, list_fields, record_fields}
use Rattle.wg_encoder.specs.Cost.{room_after}
use Rattle.wg_encoder.proofs.Rooms.{one_written}

pub with_reference : (p : Parameters) (r : ℕ) → 0 < p.window → written field.Reference p.references r ∷ [] ≡ reference_fields p r
with_reference p r some = sym (cond-true (ltb 0 p.window) (written field.Reference p.references r ∷ []) [] (lt-ltb 0 p.window some))

pub list_whole : (p : Parameters) (page r : ℕ) (referenced list : List ℕ) → 0 < length list → (reference_fields p r ++ copy_fields p r referenced list) ++ extra_fields p page (extras list referenced) ≡ list_fields p page r referenced list
list_whole p page r referenced [] some = absurd (omega arith)
list_whole p page r referenced (y ∷ ys) some = refl

pub empty_record : (p : Parameters) (page r : ℕ) (referenced list : List ℕ) → length list ≡ 0 → written field.Outdegree p.outdegrees (length list) ∷ [] ≡ record_fields p page r referenced list
unfolding record_fields
empty_record p page r referenced [] none = refl
empty_record p page r referenced (y ∷ ys) none = absurd (omega arith)

pub whole_record : (p : Parameters) (page r : ℕ) (referenced list : List ℕ) → written field.Outdegree p.outdegrees (length list) ∷ list_fields p page r referenced list ≡ record_fields p page r referenced list
unfolding record_fields
whole_record p page r referenced list = refl

-- what a record leaves, if its outdegree and its list are taken one after the other
pub record_left : (p : Parameters) (page r : ℕ) (referenced list : List ℕ) (most room left : ℕ) (code : Code) → code ≡ p.outdegrees → room ≡ room_after most (written field.Outdegree code (length list) ∷ [])
    → left ≡ room_after room (list_fields p page r referenced list) → left ≡ room_after most (record_fields p page r referenced list)
record_left p page r referenced list most room left code is outdegree rest =
    rest ∙ one_written most room (written field.Outdegree code (length list)) (list_fields p page r referenced list) outdegree
    ∙ ap (λ k. room_after most (written field.Outdegree k (length list) ∷ list_fields p page r referenced list)) is ∙ ap (room_after most) (whole_record p page r referenced list)
