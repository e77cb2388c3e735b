use Rattle.tw_diskcmd.proofs.OneResult.{one_listing, one_offering}
use Rattle.tw_diskcmd.proofs.follower_laws.told_follower_laws.Goals as goal

pub returns-clause-offering : goal.returns-clause-offering
returns-clause-offering c = λ image m before after one other tells also comes goes. one_offering image m before after
    one other tells also comes goes

pub returns-clause-listing : goal.returns-clause-listing
returns-clause-listing c = λ image before after one other tells also comes goes. one_listing image before after one
    other tells also comes goes
