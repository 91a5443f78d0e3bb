-- The list of the page that was read last.
use Rattle.std.specs.Prelude.{ℕ, List, [], ◌∷◌}
use Rattle.wg_grammar.specs.Context.{Known}

-- the list of the nearest page that is kept, or this one if none is kept
abbrev pub nearest : List Known → List ℕ → List ℕ
nearest [] past = past
nearest (k ∷ kept) past = k.list
