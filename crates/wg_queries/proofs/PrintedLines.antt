-- The text of each record, as records come.
use Rattle.std.proofs.Common.{◌≡◌, ℕ, ◌+◌, true, false, Option, List, [], ◌∷◌, ◌++◌, length, map, refl, sym, ap, subst, ◌∙◌, append_assoc, append-nil, arith}
use Rattle.wg_lines.specs.Printing.{HasPrinted, HasPrintedLess}
use Rattle.wg_lines.proofs.PrintLemmas.{printed_more, less_after}
use Rattle.wg_outside.specs.Puts.{joined}
use Rattle.wg_arcs.specs.Text.{lines_from, page_lines}
use Rattle.wg_ascii.specs.Text.{list_line, nodes_line}
use Rattle.wg_grammar.specs.{Archive.lists_of, Archive.places_of, Record.Whole}
use Rattle.wg_stream.proofs.PrefixLemmas.{length-lists, lists_more, places_more}
use Rattle.wg_outcomes.specs.{Commands.judged, Commands.number_line, Commands.number_lines, Names.file_of}
use Rattle.wg_outcomes.specs.{Judged.Judged, Judged.accepted, Readings.Readings, declared.status.Input.Input}
use Rattle.wg_readings.specs.{Loading.params_then, Passes.accepted_of, Passes.graph_then}
use Rattle.wg_outcomes.specs.JobFiles.{input_name, prints_while_reading, writes_files}
use Rattle.wg_outcomes.specs.declared.status.Input.TheVariants as input
use Rattle.wg_params.specs.Parameters.{Parameters}
use Rattle.wg_queries.specs.Printed.{head_of, job_of, listed, piece_of}
use Rattle.wg_queries.specs.{declared.printing.Listing.Listing, declared.printing.Listing.TheVariants.Arcs}
use Rattle.wg_queries.proofs.PrintedJobs.{Grows}

-- ---- a line for each
lines_last : {A : Type 0} (line : A → List ℕ) (xs : List A) (x : A) → joined (map line (xs ++ x ∷ [])) ≡ joined (map line xs) ++ line x
lines_last line [] x = append-nil (line x)
lines_last line (y ∷ xs) x = ap (λ (l : List ℕ). line y ++ l) (lines_last line xs x) ∙ sym (append_assoc (line y) (joined (map line xs)) (line x))

-- ---- offsets
offsets_more : (w : Whole) (ws : List Whole) → number_lines (places_of (w ∷ ws)) ≡ number_lines (places_of ws) ++ number_line w.end
offsets_more w ws = ap number_lines (places_more w ws) ∙ lines_last number_line (places_of ws) w.end

-- ---- the ASCIIGraph text
ascii_more : (n : ℕ) (w : Whole) (ws : List Whole)
    → nodes_line n ++ joined (map list_line (lists_of (w ∷ ws))) ≡ (nodes_line n ++ joined (map list_line (lists_of ws))) ++ list_line w.known.list
ascii_more n w ws =
    ap (λ (lists : List (List ℕ)). nodes_line n ++ joined (map list_line lists)) (lists_more w ws)
    ∙ ap (λ (t : List ℕ). nodes_line n ++ t) (lines_last list_line (lists_of ws) w.known.list)
    ∙ sym (append_assoc (nodes_line n) (joined (map list_line (lists_of ws))) (list_line w.known.list))

-- ---- arcs

last_lines : (u : ℕ) (lists : List (List ℕ)) (list : List ℕ) → lines_from u (lists ++ list ∷ []) ≡ lines_from u lists ++ page_lines (u + length lists) list
last_lines u [] list = grind (arith, append-nil)
last_lines u (l ∷ lists) list =
    let at : u + 1 + length lists ≡ u + length (l ∷ lists) = omega arith in
    ap (λ (t : List ℕ). page_lines u l ++ t) (last_lines (u + 1) lists list ∙ ap (λ (k : ℕ). lines_from (u + 1) lists ++ page_lines k list) at)
    ∙ sym (append_assoc (page_lines u l) (lines_from (u + 1) lists) (page_lines (u + length (l ∷ lists)) list))

arcs_more : (w : Whole) (ws : List Whole) → lines_from 0 (lists_of (w ∷ ws)) ≡ lines_from 0 (lists_of ws) ++ page_lines (length ws) w.known.list
arcs_more w ws = grind (arith, length-lists, lists_more, last_lines)

-- ---- any of them, of a graph of so many pages

pieces_more : (listing : Listing) (pages : ℕ) (w : Whole) (ws : List Whole) → listed listing pages (accepted_of (w ∷ ws)) ≡ listed listing pages (accepted_of ws) ++ piece_of listing (length ws) w.known.list w.end
pieces_more listing pages w ws = grind (arith, offsets_more, ascii_more, arcs_more)

pub listed_grow : (listing : Listing) (pages : ℕ) → Grows (listed listing pages)
listed_grow listing pages w ws = (piece_of listing (length ws) w.known.list w.end, pieces_more listing pages w ws)

-- before the first record
head_is : (listing : Listing) (pages : ℕ) → listed listing pages (accepted_of []) ≡ head_of listing pages
head_is listing pages = grind (arith, append-nil)

pub head_printed : (listing : Listing) (pages : ℕ) (a b waited waits : List ℕ) → waited ≡ [] → HasPrinted a b waited (head_of listing pages) waits → HasPrinted a b [] (listed listing pages (accepted_of [])) waits
head_printed listing pages a b waited waits none h = grind (arith, head_is)

pub head_less : (listing : Listing) (pages : ℕ) (a b waited : List ℕ) → waited ≡ [] → HasPrintedLess a b waited (head_of listing pages) → HasPrintedLess a b [] (listed listing pages (accepted_of []))
head_less listing pages a b waited none h = grind (arith, head_is)

-- one record more, which is that of this page
module _ (listing : Listing) (pages : ℕ) (a b c mid : List ℕ) (n : ℕ) (list : List ℕ) (end : ℕ) (w : Whole) (ws : List Whole) (count : length ws ≡ n) (list_is : w.known.list ≡ list) (end_is : w.end ≡ end)
    (h : HasPrinted a b [] (listed listing pages (accepted_of ws)) mid) where
  piece_is : piece_of listing n list end ≡ piece_of listing (length ws) w.known.list w.end
  piece_is = λ i. piece_of listing (sym count i) (sym list_is i) (sym end_is i)

  pub piece_printed : (waits : List ℕ) → HasPrinted b c mid (piece_of listing n list end) waits → HasPrinted a c [] (listed listing pages (accepted_of (w ∷ ws))) waits
  piece_printed waits k =
      subst (λ (t : List ℕ). HasPrinted a c [] t waits) (sym (pieces_more listing pages w ws))
      (printed_more a b c [] mid waits (listed listing pages (accepted_of ws)) (piece_of listing (length ws) w.known.list w.end) h (subst (λ (t : List ℕ). HasPrinted b c mid t waits) piece_is k))

  pub piece_less : HasPrintedLess b c mid (piece_of listing n list end) → HasPrintedLess a c [] (listed listing pages (accepted_of (w ∷ ws)))
  piece_less k =
      subst (λ (t : List ℕ). HasPrintedLess a c [] t) (sym (pieces_more listing pages w ws))
      (less_after a b c [] mid (listed listing pages (accepted_of ws)) (piece_of listing (length ws) w.known.list w.end) h (subst (λ (t : List ℕ). HasPrintedLess b c mid t) piece_is k))

-- ---- the jobs

abbrev pub told : Listing → Parameters → Readings → (Input → Option (List ℕ)) → Judged
told listing p r h = graph_then r p (h input.Graph) (λ a. accepted (listed listing p.nodes a))

pub judges : (listing : Listing) (base : List ℕ) (r : Readings) (h : Input → Option (List ℕ)) → judged r (job_of listing base) h ≡ params_then (h input.Properties) (λ p. told listing p r h)
judges Arcs base r h = refl
judges _ base r h = refl

pub named_properties : (listing : Listing) (base : List ℕ) → input_name (job_of listing base) input.Properties ≡ file_of base input.Properties
named_properties listing base = grind arith

pub named_graph : (listing : Listing) (base : List ℕ) → input_name (job_of listing base) input.Graph ≡ file_of base input.Graph
named_graph listing base = grind arith

pub none_written : (listing : Listing) (base : List ℕ) → writes_files (job_of listing base) ≡ false
none_written listing base = grind arith

pub prints_reading : (listing : Listing) (base : List ℕ) → prints_while_reading (job_of listing base) ≡ true
prints_reading listing base = grind arith
