-- Claims 1 to 14: what the contract says, or one clause of it, is the claim itself. Assumes nothing.
use Rattle.claims_file.specs.FileCalls.{Claim-1, Claim-2, Claim-3, Claim-4, Claim-5, Claim-6, Claim-7}
use Rattle.claims_file.specs.FileCalls.{Claim-8, Claim-9, Claim-10, Claim-11, Claim-12, Claim-13}
use Rattle.claims_file.specs.FileCalls.{Claim-14}

pub claim-1 : Claim-1
unfolding Claim-1
claim-1 f r i learnt = learnt

pub claim-2 : Claim-2
unfolding Claim-2
claim-2 f r a v learnt = learnt

pub claim-3 : Claim-3
unfolding Claim-3
claim-3 f a r learnt = learnt

pub claim-4 : Claim-4
unfolding Claim-4
claim-4 f r learnt = learnt.0

pub claim-5 : Claim-5
unfolding Claim-5
claim-5 f r learnt = learnt

pub claim-6 : Claim-6
unfolding Claim-6
claim-6 f r learnt = learnt

pub claim-7 : Claim-7
unfolding Claim-7
claim-7 f r learnt = learnt

pub claim-8 : Claim-8
unfolding Claim-8
claim-8 s r learnt = learnt

pub claim-9 : Claim-9
unfolding Claim-9
claim-9 s r learnt = learnt

pub claim-10 : Claim-10
unfolding Claim-10
claim-10 g r d learnt = learnt

pub claim-11 : Claim-11
unfolding Claim-11
claim-11 f g k s v r learnt = learnt

pub claim-12 : Claim-12
unfolding Claim-12
claim-12 f g r learnt = learnt

pub claim-13 : Claim-13
unfolding Claim-13
claim-13 l b at r learnt = learnt

pub claim-14 : Claim-14
unfolding Claim-14
claim-14 l b b' at f learnt = learnt
