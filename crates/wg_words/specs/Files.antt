-- The names of an archive's files, and of a certificate beside them.
use Rattle.std.specs.Prelude.{ℕ, ◌≢◌, ⊤, Bool, false, ◌||◌, List, ◌++◌, Option, Some, None}
use Rattle.std.specs.Str.{bytes_eq}
use Rattle.wg_outside.specs.declared.suffixes.TheConstants.{PROPERTIES, GRAPH, OFFSETS}

-- the name is one of the archive's three
abbrev pub is_file_of : List ℕ → List ℕ → Bool
is_file_of base name =
    bytes_eq name (base ++ PROPERTIES.now) || bytes_eq name (base ++ GRAPH.now) || bytes_eq name (base ++ OFFSETS.now)

-- the name is none of them
pub record IsNoFileOf (base name : List ℕ) : Type 0 where
  pub properties : name ≢ base ++ PROPERTIES.now
  pub graph : name ≢ base ++ GRAPH.now
  pub offsets : name ≢ base ++ OFFSETS.now

-- no file of the one archive is one of the other's
pub record ShareNoFile (input output : List ℕ) : Type 0 where
  pub properties : IsNoFileOf output (input ++ PROPERTIES.now)
  pub graph : IsNoFileOf output (input ++ GRAPH.now)
  pub offsets : IsNoFileOf output (input ++ OFFSETS.now)

-- the name is the one that is given, if one is
abbrev pub is_given : List ℕ → Option (List ℕ) → Bool
is_given name None = false
is_given name (Some given) = bytes_eq name given

-- whether a certificate would be written over a file of the archive or over the weights
abbrev pub overwrites : List ℕ → Option (List ℕ) → Option (List ℕ) → Bool
overwrites base weights None = false
overwrites base weights (Some certificate) = is_file_of base certificate || is_given certificate weights

-- a certificate that is written is none of these files
abbrev pub KeepsInputs : List ℕ → Option (List ℕ) → Option (List ℕ) → Type 0
KeepsInputs base weights None = ⊤
KeepsInputs base weights (Some certificate) = IsNoFileOf base certificate × (weights ≢ Some certificate)
