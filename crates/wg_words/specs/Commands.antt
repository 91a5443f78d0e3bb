-- The command line as clap reads it: the commands with what each takes, and what their matches are.
use Rattle.clap.specs.Lexer.{usize_max}
use Rattle.clap.specs.declared.builder.command.Command.{Command}
use Rattle.clap.specs.declared.builder.command.Command.TheViews.{out-Command}
use Rattle.std.specs.Borrow.{Bor}
use Rattle.std.specs.Prelude.{◌≡◌, true, false, List, [], ◌∷◌, Option, Some, None, codes}
use Rattle.wg_words.specs.declared.forms.Arity.{Arity}
use Rattle.wg_words.specs.declared.forms.Arity.TheVariants.{Word, Several, Required, Optional}
use Rattle.wg_words.specs.declared.forms.TheConstants.{FORMS}
use Rattle.clap.specs.Words.{app_of, App, Row, Rule, Text, Kinds, new_app, new_rule, with_rule, with_subcommand, subcommand_of, fault_of}

-- a word that must be there
abbrev pub positional_rule : Text → Rule
positional_rule name = record (new_rule name) { required = true }

-- one word or more, in their order
abbrev pub several_rule : Text → Rule
several_rule name = record (positional_rule name)
    { range = Some (record { start_inclusive = 1; end_inclusive = usize_max }) }

-- --NAME VALUE, which may be absent
abbrev pub option_rule : Text → Rule
option_rule name = record (new_rule name) { long = Some name }

-- --NAME VALUE, which must be there
abbrev pub required_rule : Text → Rule
required_rule name = record (option_rule name) { required = true }

-- one level of subcommands, of which one is required
abbrev pub program_app : App
program_app = record (new_app (codes "webgraph"))
    { top = record (new_app (codes "webgraph")).top { no_binary_name = true; subcommand_required = true } }

-- a command line with one command more
abbrev pub with_command : App → App → App
with_command line command = with_subcommand line command.top

-- what clap is told of an argument of this name
abbrev pub rule_of_arity : Arity → Text → Rule
rule_of_arity Word = positional_rule
rule_of_arity Several = several_rule
rule_of_arity Required = required_rule
rule_of_arity Optional = option_rule

-- a command with the rules of these arguments more, in their order
abbrev pub with_rules : {A : Type 0} → (A → Rule) → App → List A → App
with_rules rule a [] = a
with_rules rule a (x ∷ xs) = with_rules rule (with_rule a (rule x)) xs

-- what clap is told of an argument
abbrev pub rule_in : Bor Text × Arity → Rule
rule_in argument = rule_of_arity argument.1 argument.0.now

-- the command of a form
abbrev pub app_in : Bor Text × Bor (List (Bor Text × Arity)) × Bor (List (Bor Text × Arity)) → App
app_in form = with_rules rule_in (with_rules rule_in (new_app form.0.now) form.1.now) form.2.now

-- a command line with the commands of these forms more, in their order
abbrev pub with_forms : {F : Type 0} → (F → App) → App → List F → App
with_forms app line [] = line
with_forms app line (form ∷ forms) = with_forms app (with_command line (app form)) forms

-- the command line of the program: all commands of the table
abbrev pub command_app : App
command_app = with_forms (λ form. with_rules (λ a. rule_of_arity a.1 a.0.now) (with_rules (λ a. rule_of_arity a.1 a.0.now)
    (new_app form.0.now) form.1.now) form.2.now) program_app FORMS

-- nothing if the words are refused
abbrev pub where_empty : {X : Type 0} → Kinds → Option X → Option X
where_empty [] o = o
where_empty (k ∷ ks) o = None

-- the subcommand that the words name, with its matches; none if clap refuses the words
unfoldable pub parsed : List Text → Option (Text × List Row)
parsed words = where_empty (fault_of command_app words) (subcommand_of command_app words)

-- a command as a parse reads it, with no argument that is global
pub record IsApp (a : App) (c : Command) : Type 0 where
  pub app : app_of c ≡ a
  pub local : (out-Command c).has_globals ≡ false
