-- An accepted archive as the records of all pages.
use Rattle.std.proofs.Common.{◌≡◌, ℕ, zero, suc, Bool, List, [], ◌∷◌, ◌++◌, map, reverse, Ok, refl, sym, ap, ◌∙◌}
use Rattle.std.specs.Prelude.{get_or}
use Rattle.std.proofs.lemmas.List.{reverse-append, append_assoc, append-nil}
use Rattle.wg_params.specs.Parameters.{Parameters}
use Rattle.wg_grammar.specs.Record.{Whole}
use Rattle.wg_grammar.specs.Archive.{Pages, Accepted, ReadsGraph}
use Rattle.wg_stream.specs.AllRecords.{AllRecords, known_at}

-- the parts of the records behind, in the order of the pages
module _ {X : Type 0} (part : Whole → X) (p : Parameters) (bits : List Bool) where
  pub parts_on : (first : List Whole) (at : ℕ) (ws last : List Whole) (end : ℕ) → Pages p bits first at ws last end → reverse (map part last) ≡ reverse (map part first) ++ map part ws
  parts_on first at [] last end h = ap (λ (l : List Whole). reverse (map part l)) h.0 ∙ sym (append-nil (reverse (map part first)))
  parts_on first at (w ∷ ws) last end h =
      parts_on (w ∷ first) w.end ws last end h.2 ∙ ap (λ (l : List X). l ++ map part ws) (reverse-append (part w ∷ []) (map part first)) ∙ append_assoc (reverse (map part first)) (part w ∷ []) (map part ws)

-- the graph and the places of the records are those of the reading
pub record Read (p : Parameters) (bits : List Bool) (a : Accepted) : Type 0 where
  pub reading : AllRecords p bits
  pub places : a.places ≡ 0 ∷ map (λ w. w.end) reading.records
  pub graph : a.graph ≡ map (λ w. w.known.list) reading.records

pub read_of : (p : Parameters) (bits : List Bool) (a : Accepted) → ReadsGraph p bits (Ok a) → Read p bits a
read_of p bits a h = record {
  reading = record { records = h.0; behind = h.1; end = h.2; pages = h.3; all = h.4.0 };
  places = h.4.4 ∙ ap (λ (l : List ℕ). 0 ∷ l) (parts_on (λ (w : Whole). w.end) p bits [] 0 h.0 h.1 h.2 h.3);
  graph = h.4.3 ∙ parts_on (λ (w : Whole). w.known.list) p bits [] 0 h.0 h.1 h.2 h.3;
}

-- the list of a page in the graph
pub list_at : (ws : List Whole) (x : ℕ) → get_or (map (λ w. w.known.list) ws) x [] ≡ (known_at ws x).list
list_at [] x = refl
list_at (w ∷ ws) zero = refl
list_at (w ∷ ws) (suc x) = list_at ws x
