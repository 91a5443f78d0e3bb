use Rattle.wg_codes.proofs.Folds.{folds_back, unfolds_from}
use Rattle.wg_codes.proofs.Exists.{one_case_holds, no_word_begins_another, zeta_one_is_gamma}
use Rattle.wg_codes.proofs.ShortWords.{words_are_short}
use Rattle.wg_codes.proofs.PrefixReads.{prefixes_tell, long_prefixes_tell}
use Rattle.wg_codes.proofs.laws.words_and_folds.Goals as goal

pub returns : goal.returns
returns c = record {
  one_case = one_case_holds;
  no_word_begins_another = no_word_begins_another;
  short = words_are_short;
  prefixes = prefixes_tell;
  long_prefixes = long_prefixes_tell;
  zeta_one = zeta_one_is_gamma;
  fold = folds_back;
  from = unfolds_from;
}
