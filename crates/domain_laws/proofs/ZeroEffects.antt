-- The domain of 144 words that are 0. No contract cites this file. Assumes nothing.
use mathlib.Core.Path.{◌≡◌, refl}
use lib.ListN.{replicate}
use Rattle.domain.specs.Domain.{domain_of}
use Rattle.sizes.specs.Sizes.{domain_size}

pub domain_of-zeros : domain_of (replicate domain_size 0)
    ≡ record {
      source = replicate 64 0;
      target = replicate 64 0;
      pending = replicate 2 0;
      enable = replicate 2 0;
      delivery = replicate 12 0;
    }
unfolding domain_of
domain_of-zeros = refl
