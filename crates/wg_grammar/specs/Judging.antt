-- What is handed in with a value, and what is answered.
use Rattle.std.specs.Prelude.{◌≡◌, ℕ, zero, suc, min, nat_le, if◌then◌else◌, length, get_or, Option, Some, None, Result, Ok, Err}
use Rattle.wg_params.specs.Parameters.{Parameters}
use Rattle.wg_grammar.specs.declared.fault.Field.{Field}
use Rattle.wg_grammar.specs.declared.fault.Field.TheVariants as field
use Rattle.wg_grammar.specs.declared.fault.Kind.{Kind}
use Rattle.wg_grammar.specs.declared.progress.Referenced.{Referenced}
use Rattle.wg_grammar.specs.Context.{Context, no_page}

-- what is told of the page that a reference of v names: nothing if the reference is 0 or out of its range
abbrev pub named : Parameters → Context → ℕ → Option Referenced
named p c zero = None
named p c (suc r) =
    if nat_le (suc r) (min p.window c.page)
    then Some (record { length = length (get_or c.behind r no_page).list; depth = (get_or c.behind r no_page).depth })
    else None

-- what is given with a value: with a reference, what it names
abbrev pub Gives : Option Referenced → Parameters → Context → Field → ℕ → Type 0
Gives given p c f v = f ≡ field.Reference → given ≡ named p c v

-- the refusal is answered, or that there is none
abbrev pub Judges : {X : Type 0} → Result X Kind → Option Kind → Type 0
Judges (Ok x) refused = refused ≡ None
Judges (Err k) refused = refused ≡ Some k
