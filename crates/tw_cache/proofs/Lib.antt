mod CachedLaws
