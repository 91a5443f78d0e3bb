-- One page of an archive that was not checked, read along its chain of references alone.
use Rattle.std.specs.Prelude.{◌≡◌, ◌≢◌, ℕ, zero, suc, ◌+◌, ◌-◌, ◌<◌, Bool, List, [], ◌∷◌, length, get_or, None, Result, Ok, Err}
use Rattle.wg_params.specs.Parameters.{Parameters}
use Rattle.wg_grammar.specs.declared.fault.Fault.{Fault}
use Rattle.wg_grammar.specs.declared.fault.ArchiveFault.{ArchiveFault}
use Rattle.wg_grammar.specs.declared.fault.ArchiveFault.TheVariants as faults
use Rattle.wg_grammar.specs.Context.{Known, no_page}
use Rattle.wg_grammar.specs.Record.{Whole, ReadsRecord}
use Rattle.wg_decoder.specs.Apart.{page_over, HeadStands, HeadFails}

-- chains may have any length
abbrev pub endless : Parameters → Parameters
endless p = record p { chain = None }

-- the bit where the record of a page begins, by the offsets
abbrev pub start_of : List ℕ → ℕ → ℕ
start_of offsets page = get_or offsets page 0

-- The head of a page's record refers so many pages back, or to none if this is 0; or it is refused as the fault
-- says. It is validated on its own: there is no limit on chains, and no outdegrees come before.
abbrev pub HeadReads : Parameters → List Bool → List ℕ → ℕ → Result ℕ Fault → Type 0
HeadReads p bits offsets page (Ok r) = (d : ℕ) × (end : ℕ)
    × HeadStands (endless p) (page_over p page no_page) bits (start_of offsets page) d r end
HeadReads p bits offsets page (Err e) = HeadFails (endless p) (page_over p page no_page) bits (start_of offsets page) e

-- The whole record of a page is this, if the page that it refers to is known, and no outdegrees come before. A
-- proper record must end where the next begins.
abbrev pub RecordReads : Parameters → List Bool → List ℕ → ℕ → Known → Result Known ArchiveFault → Type 0
RecordReads p bits offsets page below (Ok k) =
    ReadsRecord p (page_over p page below) bits (start_of offsets page)
    (Ok (record { known = k; end = start_of offsets (page + 1) }))
RecordReads p bits offsets page below (Err (faults.Record e)) =
    ReadsRecord p (page_over p page below) bits (start_of offsets page) (Err e)
RecordReads p bits offsets page below (Err (faults.Length at found stored)) =
    (w : Whole) × ReadsRecord p (page_over p page below) bits (start_of offsets page) (Ok w)
    × (w.end ≢ start_of offsets (page + 1))
    × (at ≡ page) × (found ≡ w.end - start_of offsets page)
    × (stored ≡ start_of offsets (page + 1) - start_of offsets page)
RecordReads p bits offsets page below (Err (faults.Tail at)) = ⊥
RecordReads p bits offsets page below (Err (faults.ArcsShort total)) = ⊥
RecordReads p bits offsets page below (Err (faults.Offsets word)) = ⊥

-- the head of page y is right, and refers back to page z
abbrev pub RefersTo : Parameters → List Bool → List ℕ → ℕ → ℕ → Type 0
RefersTo p bits offsets y z = (r : ℕ) × (0 < r) × HeadReads p bits offsets y (Ok r) × (z ≡ y - r)

-- what the last page of a chain is: by its record if its head is right, else by the fault of its head
abbrev pub EndReads : Parameters → List Bool → List ℕ → ℕ → Result ℕ Fault → Result Known ArchiveFault → Type 0
EndReads p bits offsets y (Ok zero) w = RecordReads p bits offsets y no_page w
EndReads p bits offsets y (Ok (suc r)) w = ⊥
EndReads p bits offsets y (Err e) w = w ≡ Err (faults.Record e)

-- what a page is, by what the page that it refers to is: a fault further down comes first
abbrev pub OverReads : Parameters → List Bool → List ℕ → ℕ → Result Known ArchiveFault → Result Known ArchiveFault
    → Type 0
OverReads p bits offsets y (Ok below) w = RecordReads p bits offsets y below w
OverReads p bits offsets y (Err f) w = w ≡ Err f

-- From page y references lead over the pages zs, one after the other, to the last of the chain. By these pages alone y
-- is known, or has this fault: the heads come first, from y down, and then the records from the last page up.
abbrev pub ChainReads : Parameters → List Bool → List ℕ → ℕ → List ℕ → Result Known ArchiveFault → Type 0
ChainReads p bits offsets y [] w = (h : Result ℕ Fault) × HeadReads p bits offsets y h × EndReads p bits offsets y h w
ChainReads p bits offsets y (z ∷ zs) w = RefersTo p bits offsets y z × (v : Result Known ArchiveFault)
    × ChainReads p bits offsets z zs v × OverReads p bits offsets y v w

-- what page x is, by its chain
abbrev pub SpotReads : Parameters → List Bool → List ℕ → ℕ → Result Known ArchiveFault → Type 0
SpotReads p bits offsets x w = (zs : List ℕ) × ChainReads p bits offsets x zs w

-- pages from x on, each of which refers to the next
pub record IsChain (p : Parameters) (bits : List Bool) (offsets : List ℕ) (x : ℕ) (chain : List ℕ) : Type 0 where
  pub some : 0 < length chain
  pub first : get_or chain 0 0 ≡ x
  pub links : (i : ℕ) → suc i < length chain → RefersTo p bits offsets (get_or chain i 0) (get_or chain (suc i) 0)

-- the fault is one of the head of a page
abbrev pub IsHeadFault : Parameters → List Bool → List ℕ → ℕ → ArchiveFault → Type 0
IsHeadFault p bits offsets page f = (e : Fault) × (f ≡ faults.Record e) × HeadReads p bits offsets page (Err e)
