use Rattle.std.proofs.Common.{◌∙◌, refl}
use Rattle.wg_cli.proofs.LineLemmas.{not_done, refused}
use Rattle.wg_cli.proofs.reporting.write_line.Goals as goal

pub returns-in-Usage : goal.returns-in-Usage
returns-in-Usage g c =
    let told = c.write_all.ensures in
    rw c.in-Usage.is record { puts = told.puts; cause = refused _ _ _ _ told.refusals; quiet = λ is. not_done _ refl is; later = told.later }

pub returns-in-Memory : goal.returns-in-Memory
returns-in-Memory g c =
    let told = c.write_all-in-Memory.ensures in
    rw c.in-Memory.is record { puts = told.puts; cause = refused _ _ _ _ told.refusals; quiet = λ is. not_done _ refl is; later = told.later }

pub returns-in-ReadFault : goal.returns-in-ReadFault
returns-in-ReadFault g c =
    let told = c.about.ensures in
    rw c.in-ReadFault.is record { puts = told.puts; cause = told.cause; quiet = λ is. not_done _ refl is; later = told.later }

pub returns-in-WriteFault : goal.returns-in-WriteFault
returns-in-WriteFault g c =
    let told = c.about_output.ensures in
    rw c.in-WriteFault.is record { puts = told.puts; cause = told.cause; quiet = λ is. not_done _ refl is; later = told.later }

pub returns-in-Missing : goal.returns-in-Missing
returns-in-Missing g c =
    let told = c.about-in-Missing.ensures in
    rw c.in-Missing.is record { puts = told.puts; cause = told.cause; quiet = λ is. not_done _ refl is; later = told.later }

pub returns-in-BadArcs : goal.returns-in-BadArcs
returns-in-BadArcs g c =
    let told = c.fault_in.ensures in
    rw c.in-BadArcs.is record { puts = rw c.line.ensures at told.puts; cause = told.cause; quiet = λ is. not_done _ refl is; later = told.later }

pub returns-in-BadProperties : goal.returns-in-BadProperties
returns-in-BadProperties g c =
    let told = c.fault_in-in-BadProperties.ensures in
    rw c.in-BadProperties.is record { puts = rw c.properties.ensures at told.puts; cause = told.cause; quiet = λ is. not_done _ refl is; later = told.later }

pub returns-in-BadArchive : goal.returns-in-BadArchive
returns-in-BadArchive g c =
    let told = c.fault_in-in-BadArchive.ensures in
    rw c.in-BadArchive.is record { puts = rw (c.file_of_fault-input.ensures, c.archive.ensures) at told.puts; cause = told.cause; quiet = λ is. not_done _ refl is; later = told.later }

pub returns-in-BadSecond : goal.returns-in-BadSecond
returns-in-BadSecond g c =
    let told = c.fault_of_second.ensures in
    rw c.in-BadSecond.is record { puts = told.puts; cause = told.cause; quiet = λ is. not_done _ refl is; later = told.later }

pub returns-in-TooManyArcs : goal.returns-in-TooManyArcs
returns-in-TooManyArcs g c =
    let told = c.write_all-in-TooManyArcs.ensures in
    rw c.in-TooManyArcs.is record { puts = told.puts; cause = refused _ _ _ _ told.refusals; quiet = λ is. not_done _ refl is; later = told.later }

pub returns-in-NoPage : goal.returns-in-NoPage
returns-in-NoPage g c =
    let told = c.write_all-in-NoPage.ensures in
    rw c.in-NoPage.is record { puts = rw (c.as_bytes.ensures ∙ c.no_page.ensures) at told.puts; cause = refused _ _ _ _ told.refusals; quiet = λ is. not_done _ refl is; later = told.later }

pub returns-in-OverLimit : goal.returns-in-OverLimit
returns-in-OverLimit g c =
    let told = c.about-in-OverLimit.ensures in
    rw c.in-OverLimit.is record { puts = told.puts; cause = told.cause; quiet = λ is. not_done _ refl is; later = told.later }

pub returns-in-BadWeights : goal.returns-in-BadWeights
returns-in-BadWeights g c =
    let told = c.fault_in-in-BadWeights.ensures in
    rw c.in-BadWeights.is record { puts = rw c.weights.ensures at told.puts; cause = told.cause; quiet = λ is. not_done _ refl is; later = told.later }

pub returns-in-BadText : goal.returns-in-BadText
returns-in-BadText g c =
    let told = c.fault_in-in-BadText.ensures in
    rw c.in-BadText.is record { puts = rw c.plain.ensures at told.puts; cause = told.cause; quiet = λ is. not_done _ refl is; later = told.later }

pub returns-in-BadMap : goal.returns-in-BadMap
returns-in-BadMap g c =
    let told = c.fault_in-in-BadMap.ensures in
    rw c.in-BadMap.is record { puts = rw c.numbers.ensures at told.puts; cause = told.cause; quiet = λ is. not_done _ refl is; later = told.later }

pub returns-in-BadCertificate : goal.returns-in-BadCertificate
returns-in-BadCertificate g c =
    let told = c.fault_in-in-BadCertificate.ensures in
    rw c.in-BadCertificate.is record { puts = rw c.certificate.ensures at told.puts; cause = told.cause; quiet = λ is. not_done _ refl is; later = told.later }
