-- What a file holds once bytes are appended to it or to another.
use Rattle.std.proofs.Common.{◌≡◌, ◌≢◌, ℕ, List, ◌++◌, arith}
use Rattle.std.specs.Prelude.{Some}
use Rattle.std.specs.FinMap as fin
use Rattle.std.proofs.lemmas.List.{append-nil}
use Rattle.wg_outside.specs.Outside.{Files, appended}
use Rattle.wg_outside.proofs.FilesLemmas.{get-insert_same, get-insert_other}

pub get_more : (f : Files) (n sent out : List ℕ) → fin.get f n ≡ Some sent → fin.get (appended f n out) n ≡ Some (sent ++ out)
get_more f n sent out h = grind (arith, append-nil, get-insert_same)

pub get_other : (f : Files) (n out q : List ℕ) → q ≢ n → fin.get (appended f n out) q ≡ fin.get f q
get_other f n out q h = grind (arith, get-insert_other)
