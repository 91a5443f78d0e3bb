-- Depots and sinks in memory as contracts see them.
use Rattle.std.specs.Prelude.{◌≡◌, ℕ, ◌+◌, List, replicate, refl}
use Rattle.std.specs.FinMap as map
use Rattle.std.specs.Coded.{Coded, code_by, coded×, coded_ℕ}
use Rattle.wg_outside.specs.Outside.{Files, files_code, Counts, risen}

-- how many calls of one kind there were, and which of them is to fail, counted from 1; 0 for none
pub record Calls : Type 0 where
  pub made : ℕ
  pub named : ℕ

abbrev pub no_calls : Calls
no_calls = record { made = 0; named = 0 }

-- the call that comes is the named one
abbrev pub IsNamed : Calls → Type 0
IsNamed calls = calls.made + 1 ≡ calls.named

abbrev pub one_more : Calls → Calls
one_more calls = record calls { made = risen calls.made }

-- files, the most bytes that one call moves, and how often a name was absent or memory was wanted
pub record SteadyFiles : Type 0 where
  pub files : Files
  pub piece : ℕ
  pub absences : ℕ
  pub wants : ℕ

-- no call fails
abbrev pub steady_counts : SteadyFiles → Counts
steady_counts d = record { read_faults = 0; write_faults = 0; absences = d.absences; wants = d.wants }

-- such a depot is stored as the tuple of its fields
abbrev pub steady_files_code : Coded SteadyFiles
steady_files_code =
    code_by (Files × (ℕ × (ℕ × ℕ))) (coded× files_code (coded× coded_ℕ (coded× coded_ℕ coded_ℕ)))
    (λ d. (d.files, (d.piece, (d.absences, d.wants))))
    (λ p. record { files = p.0; piece = p.1.0; absences = p.1.1.0; wants = p.1.1.1 })
    (λ _. refl)

-- a depot in memory, as above, and its calls that are to fail
pub record FailingFiles : Type 0 where
  pub steady : SteadyFiles
  pub reads : Calls
  pub creates : Calls
  pub appends : Calls
  pub read_faults : ℕ
  pub write_faults : ℕ

abbrev pub failing_counts : FailingFiles → Counts
failing_counts d = record {
  read_faults = d.read_faults;
  write_faults = d.write_faults;
  absences = d.steady.absences;
  wants = d.steady.wants;
}

abbrev pub calls_code : Coded Calls
calls_code = code_by (ℕ × ℕ) (coded× coded_ℕ coded_ℕ) (λ c. (c.made, c.named))
    (λ p. record { made = p.0; named = p.1 }) (λ _. refl)

abbrev pub failing_files_code : Coded FailingFiles
failing_files_code =
    code_by (SteadyFiles × (Calls × (Calls × (Calls × (ℕ × ℕ)))))
    (coded× steady_files_code (coded× calls_code (coded× calls_code (coded× calls_code (coded× coded_ℕ coded_ℕ)))))
    (λ d. (d.steady, (d.reads, (d.creates, (d.appends, (d.read_faults, d.write_faults))))))
    (λ p. record {
      steady = p.0;
      reads = p.1.0;
      creates = p.1.1.0;
      appends = p.1.1.1.0;
      read_faults = p.1.1.1.1.0;
      write_faults = p.1.1.1.1.1;
    })
    (λ _. refl)

-- how often a sink failed, and how often it found no memory
pub record Refusals : Type 0 where
  pub faults : ℕ
  pub wants : ℕ

-- bytes, the most of them that one call takes, and how often memory was wanted
pub record SteadyBytes : Type 0 where
  pub taken : List ℕ
  pub piece : ℕ
  pub wants : ℕ

-- no write fails
abbrev pub steady_refusals : SteadyBytes → Refusals
steady_refusals s = record { faults = 0; wants = s.wants }

-- a sink in memory, its write that is to fail, and how often one failed
pub record FailingBytes : Type 0 where
  pub steady : SteadyBytes
  pub writes : Calls
  pub faults : ℕ

abbrev pub failing_refusals : FailingBytes → Refusals
failing_refusals s = record { faults = s.faults; wants = s.steady.wants }

-- one file of zeros, and how often it was written to or another name was read
pub record OneFile : Type 0 where
  pub name : List ℕ
  pub zeros : ℕ
  pub write_faults : ℕ
  pub absences : ℕ

abbrev pub files_of_zeros : OneFile → Files
files_of_zeros d = map.insert map.empty d.name (replicate d.zeros 0)

-- no read fails, and nothing takes memory
abbrev pub zero_counts : OneFile → Counts
zero_counts d = record { read_faults = 0; write_faults = d.write_faults; absences = d.absences; wants = 0 }
