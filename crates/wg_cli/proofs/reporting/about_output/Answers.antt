use Rattle.wg_cli.proofs.reporting.about_output.Goals as goal

pub returns-in-Some-clause-puts : goal.returns-in-Some-clause-puts
returns-in-Some-clause-puts g c = rw (← c.in-Some.ensures) c.naming.ensures.puts
