-- What is said of each fault.
use Rattle.std.specs.Prelude.{ℕ, List, ◌++◌, codes, decimal}
use Rattle.wg_properties.specs.Words.{name_of}
use Rattle.wg_properties.specs.declared.fault.PropFault.{PropFault}
use Rattle.wg_properties.specs.declared.fault.PropFault.TheVariants as properties
use Rattle.wg_grammar.specs.declared.fault.Field.{Field}
use Rattle.wg_grammar.specs.declared.fault.Field.TheVariants as field
use Rattle.wg_grammar.specs.declared.fault.Kind.{Kind}
use Rattle.wg_grammar.specs.declared.fault.Kind.TheVariants as kind
use Rattle.wg_grammar.specs.declared.fault.Fault.{Fault}
use Rattle.wg_grammar.specs.declared.fault.OffsetWord.{OffsetWord}
use Rattle.wg_grammar.specs.declared.fault.OffsetWord.TheVariants as word
use Rattle.wg_grammar.specs.declared.fault.ArchiveFault.{ArchiveFault}
use Rattle.wg_grammar.specs.declared.fault.ArchiveFault.TheVariants as archive
use Rattle.wg_arcs.specs.declared.fault.ArcsKind.{ArcsKind}
use Rattle.wg_arcs.specs.declared.fault.ArcsKind.TheVariants as arcs
use Rattle.wg_arcs.specs.declared.numbers_fault.NumbersFault.{NumbersFault}
use Rattle.wg_arcs.specs.declared.numbers_fault.NumbersFault.TheVariants as fault
use Rattle.wg_arcs.specs.declared.numbers_fault.NumbersKind.{NumbersKind}
use Rattle.wg_arcs.specs.declared.numbers_fault.NumbersKind.TheVariants as numbers
use Rattle.wg_ascii.specs.declared.fault.AsciiKind.{AsciiKind}
use Rattle.wg_ascii.specs.declared.fault.AsciiKind.TheVariants as plain
use Rattle.wg_rank.specs.declared.fault.CertFault.{CertFault}
use Rattle.wg_rank.specs.declared.fault.CertFault.TheVariants as certificate
use Rattle.wg_rank.specs.declared.fault.CertKind.{CertKind}
use Rattle.wg_rank.specs.declared.fault.CertKind.TheVariants as claim
use Rattle.wg_outcomes.specs.declared.status.WeightsFault.{WeightsFault}
use Rattle.wg_outcomes.specs.declared.status.WeightsFault.TheVariants as weights

abbrev pub text_of_field : Field → List ℕ
text_of_field field.Outdegree = codes "outdegree"
text_of_field field.Reference = codes "reference"
text_of_field field.BlockCount = codes "blockcount"
text_of_field field.Block = codes "block"
text_of_field field.Copied = codes "copied"
text_of_field field.IntervalCount = codes "intervalcount"
text_of_field field.Left = codes "left"
text_of_field field.Length = codes "length"
text_of_field field.Residual = codes "residual"
text_of_field field.Record = codes "record"

abbrev pub text_of_kind : Kind → List ℕ
text_of_kind kind.Cut = codes "cut"
text_of_kind kind.NoWord = codes "noword"
text_of_kind kind.Range = codes "range"
text_of_kind kind.Chain = codes "chain"
text_of_kind kind.Total = codes "total"
text_of_kind kind.Copied = codes "copied"
text_of_kind kind.Twice = codes "twice"

abbrev pub text_of_arcs : ArcsKind → List ℕ
text_of_arcs arcs.Shape = codes "shape"
text_of_arcs arcs.Range = codes "range"
text_of_arcs arcs.Order = codes "order"
text_of_arcs arcs.TooMany = codes "too many"

abbrev pub text_of_line : ℕ → ArcsKind → List ℕ
text_of_line line k = codes "line " ++ decimal line ++ codes ": " ++ text_of_arcs k

abbrev pub text_of_properties : PropFault → List ℕ
text_of_properties (properties.Line n) = codes "line " ++ decimal n
text_of_properties (properties.Missing k) = codes "missing " ++ name_of k
text_of_properties (properties.Number k) = codes "number " ++ name_of k
text_of_properties (properties.Range k) = codes "range " ++ name_of k
text_of_properties properties.Class = codes "class"
text_of_properties properties.Version = codes "version"
text_of_properties (properties.Flag n) = codes "flag " ++ decimal n
text_of_properties properties.Endian = codes "endianness"

abbrev pub text_of_record : Fault → List ℕ
text_of_record f = codes "page " ++ decimal f.page ++ codes " bit " ++ decimal f.at ++ codes " " ++ text_of_field f.field ++ codes " " ++ text_of_kind f.kind

abbrev pub text_of_word : OffsetWord → List ℕ
text_of_word (word.Cut n) = codes "word " ++ decimal n ++ codes " cut"
text_of_word (word.NoWord n) = codes "word " ++ decimal n ++ codes " noword"
text_of_word word.First = codes "first word"
text_of_word (word.TooFar n) = codes "word " ++ decimal n ++ codes " too far"
text_of_word (word.Tail at) = codes "tail bit " ++ decimal at

-- a total that is too small is named beside the arcs that the properties promise
abbrev pub text_of_archive : ℕ → ArchiveFault → List ℕ
text_of_archive promised (archive.Record f) = text_of_record f
text_of_archive promised (archive.Tail at) = codes "tail bit " ++ decimal at
text_of_archive promised (archive.ArcsShort total) = codes "arcs " ++ decimal total ++ codes " of " ++ decimal promised
text_of_archive promised (archive.Offsets w) = text_of_word w
text_of_archive promised (archive.Length page found stored) =
    codes "page " ++ decimal page ++ codes " length " ++ decimal found ++ codes " stored " ++ decimal stored

abbrev pub text_of_number_kind : NumbersKind → List ℕ
text_of_number_kind numbers.Shape = codes "shape"
text_of_number_kind numbers.Range = codes "range"
text_of_number_kind numbers.TooMany = codes "too many"

-- too few numbers are named beside those that are wanted
abbrev pub text_of_numbers : ℕ → NumbersFault → List ℕ
text_of_numbers pages (fault.Line line k) = codes "line " ++ decimal line ++ codes ": " ++ text_of_number_kind k
text_of_numbers pages (fault.Count found) = codes "count " ++ decimal found ++ codes " of " ++ decimal pages

abbrev pub text_of_weights : ℕ → WeightsFault → List ℕ
text_of_weights pages (weights.Numbers f) = text_of_numbers pages f
text_of_weights pages weights.Zero = codes "sum zero"

abbrev pub text_of_plain_kind : AsciiKind → List ℕ
text_of_plain_kind plain.Shape = codes "shape"
text_of_plain_kind plain.Range = codes "range"
text_of_plain_kind plain.Order = codes "order"
text_of_plain_kind plain.TooMany = codes "too many"
text_of_plain_kind plain.Extra = codes "extra"
text_of_plain_kind plain.Missing = codes "missing"

abbrev pub text_of_plain : ℕ → AsciiKind → List ℕ
text_of_plain line k = codes "line " ++ decimal line ++ codes ": " ++ text_of_plain_kind k

abbrev pub text_of_claim_kind : CertKind → List ℕ
text_of_claim_kind claim.Shape = codes "shape"
text_of_claim_kind claim.Pages = codes "pages"
text_of_claim_kind claim.Missing = codes "missing"
text_of_claim_kind claim.Extra = codes "extra"

abbrev pub text_of_certificate : CertFault → List ℕ
text_of_certificate (certificate.Line line k) = codes "line " ++ decimal line ++ codes ": " ++ text_of_claim_kind k
text_of_certificate certificate.Sum = codes "sum"
text_of_certificate (certificate.Falls page) = codes "page " ++ decimal page ++ codes " falls"

-- the line about a page that the graph does not have
abbrev pub no_page_line : ℕ → List ℕ
no_page_line page = codes "wg: no page " ++ decimal page ++ codes "\n"
