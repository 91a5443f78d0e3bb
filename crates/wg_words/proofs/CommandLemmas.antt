-- What clap's clauses say of the program's command line.
use Rattle.std.proofs.Common.{◌≡◌, true, List, [], Option, None, refl, sym, ◌∙◌, ap, subst, arith}
use Rattle.clap.specs.Words.{App, Row, Text, Kinds, IsAmong, fault_of, is_simple, is_simple_and_free, subcommand_of}
use Rattle.clap.specs.declared.error.kind.ErrorKind.{ErrorKind}
use Rattle.clap.proofs.OnLiterals.{clap_on_literals}
use Rattle.wg_words.specs.Commands.{command_app, where_empty, parsed}

pub command_simple : is_simple command_app ≡ true
unfolding clap_on_literals
command_simple = refl

pub command_free : is_simple_and_free command_app ≡ true
unfolding clap_on_literals
command_free = refl

none_where_kind : {X : Type 0} (kinds : Kinds) (k : ErrorKind) (o : Option X) → IsAmong k kinds → where_empty kinds o ≡ None
none_where_kind kinds k o h = grind arith

-- if clap refuses the words, nothing is parsed
pub parsed_none : (words : List Text) (k : ErrorKind) → IsAmong k (fault_of command_app words) → parsed words ≡ None
unfolding parsed
parsed_none words k among = none_where_kind (fault_of command_app words) k (subcommand_of command_app words) among

-- if it takes them, what it found is parsed
pub parsed_some : (words : List Text) (found : Option (Text × List Row)) → fault_of command_app words ≡ [] → found ≡ subcommand_of command_app words → found ≡ parsed words
unfolding parsed
parsed_some words found none is = is ∙ sym (ap (λ (ks : Kinds). where_empty ks (subcommand_of command_app words)) none)

-- a kind of a command that is read as the program's
pub among_at : (k : ErrorKind) (a : App) → a ≡ command_app → (words : List Text) → IsAmong k (fault_of a words) → IsAmong k (fault_of command_app words)
among_at k a is words among = subst (λ (b : App). IsAmong k (fault_of b words)) is among
