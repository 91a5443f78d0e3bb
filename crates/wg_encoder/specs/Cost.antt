-- What fields take.
use Rattle.std.specs.Prelude.{◌≡◌, ℕ, ◌-◌, ◌≤◌, if◌then◌else◌, List, length, Option, Some, None}
use Rattle.std.specs.Option.{ForSome}
use Rattle.wg_greedy.specs.Fields.{Written, bits_of_fields, all_have_words}

-- their bits, if each value has a word
abbrev pub cost_of : List Written → Option ℕ
cost_of fields = if all_have_words fields then Some (length (bits_of_fields fields)) else None

-- how much of a room of so many bits they leave: nothing, if they fill it or some value has no word
abbrev pub room_after : ℕ → List Written → ℕ
room_after room fields = if all_have_words fields then room - length (bits_of_fields fields) else 0

-- An answer that is wanted only if fields take less than so many bits: what they take; or nothing, if they take
-- no less or some value has no word.
abbrev pub IsFewer : ℕ → Option ℕ → Option ℕ → Type 0
IsFewer most cost (Some bits) = cost ≡ Some bits
IsFewer most cost None = ForSome cost (λ bits. most ≤ bits)
