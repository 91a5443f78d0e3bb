use Rattle.std.proofs.{Common.◌∙◌, lemmas.Result.IfOk-from_err}
use Rattle.wg_readings.proofs.OutsideLemmas.{is_memory, not_looked}
use Rattle.wg_readings.proofs.records.open_graph.Goals as goal

pub returns-in_err-name : goal.returns-in_err-name
returns-in_err-name c = record { fresh = IfOk-from_err c.from_residual.result _ c.from_residual.ensures.0; only = is_memory c.from_residual.result c.from_residual.ensures.1 }

pub returns-in_err-new : goal.returns-in_err-new
returns-in_err-new c =
    let r = c.from_residual-in_err-new in
    record { fresh = IfOk-from_err r.result _ r.ensures.0; only = is_memory r.result r.ensures.1 }

pub returns : goal.returns
returns c =
    let e = c.in_ok-new.ensures in
    record {
      fresh = record {
        limits = e.limits;
        params = e.params;
        name = e.name ∙ c.as_str.ensures ∙ c.in_ok-name.ensures;
        state = e.open;
        page = e.none.0;
        arcs = e.none.1;
        at = e.none.2;
        looked = not_looked e.unlooked;
        in_step = e.in_step;
      };
      only = tt;
    }
