mod ZipLemmas
