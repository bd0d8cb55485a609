use Rattle.emdf_format.specs.Profile.{meets_profile}
use Rattle.joc_configs.proofs.meets_profile.Goals as goal

pub returns-in-EtsiStrict : goal.returns-in-EtsiStrict
unfolding meets_profile
returns-in-EtsiStrict c = rw (c.in-EtsiStrict.is, c.requires)
