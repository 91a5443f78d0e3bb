-- The names of an archive's files.
use Rattle.std.proofs.Common.{◌≡◌, ◌≢◌, ◌<◌, ℕ, arith, length, get_or, reverse, Bool, false, ◌||◌, List, ◌++◌, Option, Some, None, sym, ◌∙◌, ap}
use Rattle.std.specs.Str.{bytes_eq}
use Rattle.std.proofs.{lemmas.Bool.false≢true, lemmas.Bool.Decides.same_from_decides, lemmas.Slice.Eq.bytes_eq-Decides}
use Rattle.std.proofs.lemmas.Option.{none-some, same_Some}
use Rattle.std.proofs.lemmas.List.{append_cancel_left, append_cancel_right, reverse-append, get_or_append_left}
use Rattle.wg_words.specs.Files.{is_file_of, overwrites, IsNoFileOf, KeepsInputs, ShareNoFile}
use Rattle.wg_outside.specs.declared.suffixes.TheConstants.{PROPERTIES, GRAPH, OFFSETS}

-- after the first part, the name is the whole if its rest is the second part
pub rest_decides : (name first rest second : List ℕ) → name ≡ first ++ rest → bytes_eq rest second ≡ bytes_eq name (first ++ second)
rest_decides name first rest second is = grind (arith, same_from_decides, append_cancel_left, bytes_eq-Decides)

-- a name that does not begin with the first part is not the whole
pub no_front : (name first second : List ℕ) → ((rest : List ℕ) → name ≢ first ++ rest) → false ≡ bytes_eq name (first ++ second)
no_front name first second none = grind (arith, false≢true, same_from_decides, bytes_eq-Decides)

either_false : (a b : Bool) → (a || b) ≡ false → (a ≡ false) × (b ≡ false)
either_false a b h = grind (arith, false≢true)

not_whole : (name whole : List ℕ) → bytes_eq name whole ≡ false → name ≢ whole
not_whole name whole is = λ e. absurd (false≢true (sym is ∙ (bytes_eq-Decides name whole).1 e))

-- a name that the test finds to be no file of the archive is none
pub no_file : (base name : List ℕ) → is_file_of base name ≡ false → IsNoFileOf base name
no_file base name is = grind (arith, either_false, not_whole)

-- a certificate that the test lets pass is none of the files that are read
pub keeps_inputs : (base : List ℕ) (weights certificate : Option (List ℕ)) → overwrites base weights certificate ≡ false → KeepsInputs base weights certificate
keeps_inputs base weights None is = tt
keeps_inputs base weights (Some certificate) is = grind (arith, either_false, no_file, not_whole, none-some, same_Some)

-- counted from the end, a byte of the last part of a text is a byte of the text
from_end : (first last : List ℕ) (k : ℕ) → k < length (reverse last) → get_or (reverse (first ++ last)) k 0 ≡ get_or (reverse last) k 0
from_end first last k inside = ap (λ (l : List ℕ). get_or l k 0) (reverse-append first last) ∙ get_or_append_left (reverse last) (reverse first) 0 k inside

-- texts differ if their last parts differ in a byte, counted from the end
ends_differ : (k : ℕ) (s t : List ℕ) → k < length (reverse s) → k < length (reverse t) → get_or (reverse s) k 0 ≢ get_or (reverse t) k 0 → (a b : List ℕ) → a ++ s ≢ b ++ t
ends_differ k s t in_s in_t other a b = λ e. other (sym (from_end a s k in_s) ∙ ap (λ (l : List ℕ). get_or (reverse l) k 0) e ∙ from_end b t k in_t)

properties_not_graph : (a b : List ℕ) → a ++ PROPERTIES.now ≢ b ++ GRAPH.now
properties_not_graph = ends_differ 0 PROPERTIES.now GRAPH.now (omega arith) (omega arith) (λ e. omega (arith, e))

properties_not_offsets : (a b : List ℕ) → a ++ PROPERTIES.now ≢ b ++ OFFSETS.now
properties_not_offsets = ends_differ 1 PROPERTIES.now OFFSETS.now (omega arith) (omega arith) (λ e. omega (arith, e))

graph_not_offsets : (a b : List ℕ) → a ++ GRAPH.now ≢ b ++ OFFSETS.now
graph_not_offsets = ends_differ 0 GRAPH.now OFFSETS.now (omega arith) (omega arith) (λ e. omega (arith, e))

-- archives of other names share no file
pub no_file_shared : (input output : List ℕ) → input ≢ output → ShareNoFile input output
no_file_shared input output other = grind (arith, append_cancel_right, properties_not_graph, properties_not_offsets, graph_not_offsets)

-- archives whose names differ by the test share no file
pub no_file_shared_unless : (input output : List ℕ) → bytes_eq input output ≡ false → ShareNoFile input output
no_file_shared_unless input output is = no_file_shared input output (not_whole input output is)
