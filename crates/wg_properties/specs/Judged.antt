-- The parameters that a properties text stands for, or its first fault.
use Rattle.std.specs.Prelude.{ℕ, ◌||◌, nat_lt, if◌then◌else◌, List, [], codes, Option, Some, None, Result, Ok, Err, unwrap_or}
use Rattle.std.specs.Str.{bytes_eq}
use Rattle.wg_num.specs.Decimal.{number_of}
use Rattle.wg_params.specs.Parameters.{Parameters, params_of}
use Rattle.wg_params.specs.declared.key.Key.{Key}
use Rattle.wg_params.specs.declared.key.Key.TheVariants as key
use Rattle.wg_params.specs.declared.limits.TheConstants.{MOST_PAGES, MOST_ARCS, MOST_WINDOW, MOST_CHAIN, MOST_INTERVAL, MOST_ZETA}
use Rattle.wg_properties.specs.Flags.{codes_of}
use Rattle.wg_num.specs.Lines.{lines_of}
use Rattle.wg_properties.specs.Pairs.{first_continued, pairs_of, value_of}
use Rattle.wg_properties.specs.Words.{name_of, class_name, long_class_name}
use Rattle.wg_properties.specs.declared.fault.PropFault.{PropFault}
use Rattle.wg_properties.specs.declared.fault.PropFault.TheVariants as fault
use Rattle.wg_params.specs.declared.layout.Codes.{Codes}

-- a fault, or what comes next
abbrev pub and_then : {A B : Type 0} → Result A PropFault → (A → Result B PropFault) → Result B PropFault
and_then (Ok x) next = next x
and_then (Err e) next = Err e

-- a number from `least` to `most`
abbrev pub within : Key → ℕ → ℕ → Option ℕ → Result ℕ PropFault
within k least most None = Err (fault.Number k)
within k least most (Some n) = if nat_lt n least || nat_lt most n then Err (fault.Range k) else Ok n

abbrev pub judged_class : Option (List ℕ) → Result (Unit {0}) PropFault
judged_class None = Err (fault.Missing key.GraphClass)
judged_class (Some value) = if bytes_eq value class_name || bytes_eq value long_class_name then Ok tt
    else Err fault.Class

abbrev pub judged_version : Option (List ℕ) → Result (Unit {0}) PropFault
judged_version None = Err (fault.Missing key.Version)
judged_version (Some value) = if bytes_eq value (codes "0") then Ok tt else Err fault.Version

abbrev pub judged_endianness : Option (List ℕ) → Result (Unit {0}) PropFault
judged_endianness None = Ok tt
judged_endianness (Some value) = if bytes_eq value (codes "big") then Ok tt else Err fault.Endian

abbrev pub judged_number : Key → ℕ → Option (List ℕ) → Result ℕ PropFault
judged_number k most None = Err (fault.Missing k)
judged_number k most (Some value) = within k 0 most (number_of value)

-- `-1` is no limit
abbrev pub judged_chain : Option (List ℕ) → Result (Option ℕ) PropFault
judged_chain None = Err (fault.Missing key.MaxRefCount)
judged_chain (Some value) =
    if bytes_eq value (codes "-1") then Ok None
    else and_then (within key.MaxRefCount 0 MOST_CHAIN (number_of value)) (λ n. Ok (Some n))

-- 3 if it is absent
abbrev pub judged_zeta : Option (List ℕ) → Result ℕ PropFault
judged_zeta None = Ok 3
judged_zeta (Some value) = within key.ZetaK 1 MOST_ZETA (number_of value)

-- no flags if they are absent
abbrev pub judged_flags : ℕ → Option (List ℕ) → Result Codes PropFault
judged_flags zeta value = codes_of zeta (unwrap_or value [])

-- the keys' values, validated one by one in the order of the keys
unfoldable pub judged : (Key → Option (List ℕ)) → Result Parameters PropFault
judged value =
    and_then (judged_class (value key.GraphClass)) (λ _.
    and_then (judged_version (value key.Version)) (λ _.
    and_then (judged_endianness (value key.Endianness)) (λ _.
    and_then (judged_number key.Nodes MOST_PAGES (value key.Nodes)) (λ nodes.
    and_then (judged_number key.Arcs MOST_ARCS (value key.Arcs)) (λ arcs.
    and_then (judged_number key.WindowSize MOST_WINDOW (value key.WindowSize)) (λ window.
    and_then (judged_chain (value key.MaxRefCount)) (λ chain.
    and_then (judged_number key.MinIntervalLength MOST_INTERVAL (value key.MinIntervalLength)) (λ interval.
    and_then (judged_zeta (value key.ZetaK)) (λ zeta.
    and_then (judged_flags zeta (value key.CompressionFlags)) (λ c.
    Ok (params_of (record { window = window; chain = chain; interval = interval; zeta = zeta; codes = c })
    nodes arcs)))))))))))

-- a line that would go on in the next is a fault before all others
abbrev pub unless_continued : Option ℕ → Result Parameters PropFault → Result Parameters PropFault
unless_continued (Some n) next = Err (fault.Line n)
unless_continued None next = next

-- the parameters of a text, or its first fault
unfoldable pub properties_of : List ℕ → Result Parameters PropFault
properties_of bytes =
    unless_continued (first_continued (lines_of bytes)) (judged (λ k. value_of (name_of k) (pairs_of (lines_of bytes))))
